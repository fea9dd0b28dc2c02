-- One turn over the links, and marks that no link adds to.
use Rattle.std.proofs.Common.{◌≡◌, ℕ, ◌+◌, ◌<◌, Bool, true, false, List, length, set, replicate, MatchBool, sym, refl, ap, ◌∙◌, subst, inl, inr, ⊎_elim, arith, below_more}
use Rattle.std.proofs.lemmas.Bool.{cases_eq, both_ways}
use Rattle.parts.specs.declared.Link.{Link}
use Rattle.path_laws.specs.Marks.{marked, unmarked}
use Rattle.path_laws.specs.Paths.{link_at, Reaches, by_link, and_on}
use Rattle.path_laws.specs.Spread.{Sound, StartOrMarked, Closed}
use Rattle.path_laws.proofs.Marks.{none_marked, mark_fewer, marked_more}

module _ (links : List Link) (from : ℕ) where
  pub none_sound : (n : ℕ) → Sound links from (replicate n false)
  none_sound n a m = absurd (both_ways _ (none_marked n a) m)

  -- marks that no link adds to are on all that is reached
  pub closed_marks : (reached : List Bool) → Closed links from reached (length links) → {a : ℕ} → Reaches links from a → marked reached a ≡ true
  closed_marks reached c (by_link s) = sym (ap (marked reached) s.target_is) ∙ c s.number s.within (inl s.source_is)
  closed_marks reached c (and_on p s) = sym (ap (marked reached) s.target_is) ∙ c s.number s.within (inr (ap (marked reached) s.source_is ∙ closed_marks reached c p))

  target_reached : (reached : List Bool) (i : ℕ) → i < length links → Sound links from reached → StartOrMarked reached from (link_at links i).source → Reaches links from (link_at links i).target
  target_reached reached i w s (inl e) = by_link (record { number = i; within = w; source_is = e; target_is = refl })
  target_reached reached i w s (inr m) = and_on (s (link_at links i).source m) (record { number = i; within = w; source_is = refl; target_is = refl })

  mark_sound : (reached : List Bool) (a : ℕ) → Sound links from reached → Reaches links from a → Sound links from (set reached a true)
  mark_sound reached a s r b m = ⊎_elim (λ e. subst (λ (x : ℕ). Reaches links from x) (sym e) r) (λ ne. s b (marked_more reached a b m ne)) (cases_eq b a)

  -- what a turn over the links keeps: the marks before it were old, and i links are passed
  abbrev pub Turn : List Bool → List Bool → Bool → ℕ → Type 0
  Turn old reached more i = Sound links from reached × MatchBool more (unmarked reached < unmarked old) ((reached ≡ old) × Closed links from reached i)

  pub turn_passes : (old reached : List Bool) (more : Bool) (i : ℕ) → Turn old reached more i → (StartOrMarked reached from (link_at links i).source → marked reached (link_at links i).target ≡ true) → Turn old reached more (i + 1)
  turn_passes old reached true i t h = t
  turn_passes old reached false i t h = (t.0, (t.1.0, below_more _ _ t.1.1 h))

  pub turn_marks : (old reached : List Bool) (more : Bool) (i : ℕ) → Turn old reached more i → i < length links → (link_at links i).target < length reached → marked reached (link_at links i).target ≡ false → StartOrMarked reached from (link_at links i).source → Turn old (set reached (link_at links i).target true) true (i + 1)
  turn_marks old reached true i t w l e h =
      (mark_sound reached (link_at links i).target t.0 (target_reached reached i w t.0 h), omega (arith, t.1, mark_fewer reached (link_at links i).target l e))
  turn_marks old reached false i t w l e h =
      (mark_sound reached (link_at links i).target t.0 (target_reached reached i w t.0 h), omega (arith, ap unmarked t.1.0, mark_fewer reached (link_at links i).target l e))
