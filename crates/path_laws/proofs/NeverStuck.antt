-- Where the links stay among the activities and make no cycle, some activity is ready until all are ranked.
use Rattle.std.proofs.Common.{◌≡◌, ℕ, zero, suc, ◌<◌, ◌≤◌, Bool, true, false, ◌⊎◌, List, length, set, replicate, sym, refl, ap, ◌∙◌, subst, inl, inr, ⊎_elim, arith}
use Rattle.std.proofs.lemmas.List.{length_push, length-replicate, length-set}
use Rattle.std.proofs.lemmas.Bool.{cases_eq, cases_Bool, both_ways}
use Rattle.std.proofs.lemmas.Bool.Decides.{not_from_Decides}
use Rattle.parts.specs.declared.Link.{Link}
use Rattle.path_laws.specs.Marks.{marked, unmarked}
use Rattle.path_laws.specs.Paths.{link_at, Reaches, by_link, EndsBelow, NoCycle}
use Rattle.path_laws.specs.Ranks.{Listed, Ready, lists, first_ranked, rank_order, OrderExists}
use Rattle.path_laws.proofs.Listing.{lists_decides}
use Rattle.path_laws.proofs.Marks.{none_marked, mark_fewer, marked_more}
use Rattle.path_laws.proofs.Orders.{worked_out}
use Rattle.path_laws.proofs.Paths.{reaches_on}
use Rattle.path_laws.proofs.Pigeonhole.{one_left_out}
use Rattle.path_laws.proofs.WorkedOut.{one_more_tells}

module _ (count : ℕ) (links : List Link) (ends : EndsBelow links count) (none : NoCycle links count) where
  module _ (order : List ℕ) (stuck : (a : ℕ) → Ready count links order a → ⊥) where
    -- one of the first m links leads to a from a source that is not listed
    abbrev Blocked : ℕ → ℕ → Type 0
    Blocked a m = (k : ℕ) × (k < m) × ((link_at links k).target ≡ a) × (Listed order (link_at links k).source → ⊥)

    abbrev Clear : ℕ → ℕ → Type 0
    Clear a m = (k : ℕ) → k < m → (link_at links k).target ≡ a → Listed order (link_at links k).source

    blocked_or_clear : (a m : ℕ) → Blocked a m ⊎ Clear a m
    blocked_or_clear a zero = inr (λ k l e. absurd (omega arith))
    blocked_or_clear a (suc m) =
        ⊎_elim
        (λ w. inl (w.0, omega (arith, w.1), w.2, w.3))
        (λ clear.
        let last : Listed order (link_at links m).source → Clear a (suc m) = λ h k l e. ⊎_elim (λ same. subst (λ (x : ℕ). Listed order (link_at links x).source) (sym same) h) (λ ne. clear k (omega arith) e) (cases_eq k m) in
        let other : ((link_at links m).target ≡ a → ⊥) → Clear a (suc m) = λ far k l e. ⊎_elim (λ same. absurd (far (subst (λ (x : ℕ). (link_at links x).target ≡ a) same e))) (λ ne. clear k (omega arith) e) (cases_eq k m) in
        let test = lists_decides order (link_at links m).source in
        ⊎_elim
        (λ e. ⊎_elim
        (λ t. inr (last (test.0 t)))
        (λ f. inl (m, omega arith, e, not_from_Decides (lists order (link_at links m).source) test f))
        (cases_Bool (lists order (link_at links m).source)))
        (λ far. inr (other far))
        (cases_eq (link_at links m).target a))
        (blocked_or_clear a m)

    -- back over links from sources that are not listed, until an activity comes again
    walk : (left : ℕ) (seen : List Bool) (a : ℕ) → unmarked seen ≤ left → length seen ≡ count → a < count → (Listed order a → ⊥) → marked seen a ≡ false → ((b : ℕ) → marked seen b ≡ true → Reaches links a b) → ⊥
    walk zero seen a few long l unlisted fresh reached = omega (arith, mark_fewer seen a (omega arith) fresh)
    walk (suc left) seen a few long l unlisted fresh reached =
        ⊎_elim
        (λ w.
        let source = (link_at links w.0).source in
        let step : Reaches links source a = by_link (record { number = w.0; within = w.1; source_is = refl; target_is = w.2 }) in
        let from_source : (b : ℕ) → marked (set seen a true) b ≡ true → Reaches links source b =
        λ b m. ⊎_elim (λ e. subst (λ (x : ℕ). Reaches links source x) (sym e) step) (λ ne. reaches_on step (reached b (marked_more seen a b m ne))) (cases_eq b a) in
        ⊎_elim
        (λ m. none source (ends w.0 w.1).0 (from_source source m))
        (λ f. walk left (set seen a true) source (omega (arith, mark_fewer seen a (omega arith) fresh)) (length-set seen a true ∙ long) (ends w.0 w.1).0 w.3 f from_source)
        (cases_Bool (marked (set seen a true) source)))
        (λ clear. stuck a (record { activity = l; unranked = unlisted; sources = clear }))
        (blocked_or_clear a (length links))

    never_stuck : length order < count → ⊥
    never_stuck few =
        let r = one_left_out order count few in
        walk (unmarked (replicate count false)) (replicate count false) r.0 (omega arith) (length-replicate count false) r.1 r.2 (none_marked count r.0) (λ b m. absurd (both_ways _ (none_marked count b) m))

  all_ranked : (i : ℕ) → i ≤ count → length (first_ranked count links i) ≡ i
  all_ranked zero l = refl
  all_ranked (suc i) l =
      let order = first_ranked count links i in
      let long : length order ≡ i = all_ranked i (omega arith) in
      ⊎_elim
      (λ h. omega (arith, ap length h.2, length_push order h.0, long))
      (λ h. absurd (never_stuck order h.0 (omega (arith, long))))
      (one_more_tells count links order)

pub order_exists : (count : ℕ) (links : List Link) → OrderExists count links
order_exists count links ends none = (rank_order count links, (worked_out count links).whole (all_ranked count links ends none count (omega arith)))
