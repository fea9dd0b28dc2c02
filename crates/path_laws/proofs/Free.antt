-- Marks on what is listed: what is free by the marks is ready by the list.
use Rattle.std.proofs.Common.{◌≡◌, ℕ, ◌+◌, ◌<◌, Bool, true, false, List, [], ◌∷◌, ◌++◌, length, set, replicate, Some, None, sym, refl, ap, ◌∙◌, subst, ⊎_elim, add-one, arith}
use Rattle.std.proofs.lemmas.List.{get_or-set_same, get_or-set_other, length-set, length_push}
use Rattle.std.proofs.lemmas.Bool.{cases_eq, cases_Bool, both_ways}
use Rattle.parts.specs.declared.Link.{Link}
use Rattle.path_laws.specs.Free.{Free, LeastFree, Shows}
use Rattle.path_laws.specs.Marks.{marked}
use Rattle.path_laws.specs.Ranks.{Listed, Ready, Least, Ranks, one_more, first_ranked}
use Rattle.path_laws.proofs.Listing.{listed_push, listed_more, listed_last}
use Rattle.path_laws.proofs.Marks.{none_marked}
use Rattle.path_laws.proofs.Orders.{stuck_no_order, worked_out}
use Rattle.path_laws.proofs.WorkedOut.{one_more_is}

shows_none : (n : ℕ) → Shows (replicate n false) []
shows_none n a = (λ m. absurd (both_ways _ (none_marked n a) m), λ h. absurd (omega (arith, h.1)))

shows_push : (ranked : List Bool) (order : List ℕ) (a : ℕ) → a < length ranked → Shows ranked order → Shows (set ranked a true) (order ++ a ∷ [])
shows_push ranked order a l s b =
    ⊎_elim
    (λ e. (λ _. subst (λ (x : ℕ). Listed (order ++ a ∷ []) x) (sym e) (listed_last order a), λ _. subst (λ (x : ℕ). marked (set ranked a true) x ≡ true) (sym e) (get_or-set_same ranked a true false l)))
    (λ ne. (
      λ m. listed_more order a b ((s b).0 (sym (get_or-set_other ranked a b true false ne) ∙ m)),
      λ h. get_or-set_other ranked a b true false ne ∙ (s b).1 (⊎_elim (λ e. absurd (ne e)) (λ old. old) (listed_push order a b h)),
    ))
    (cases_eq b a)

module _ (count : ℕ) (links : List Link) (ranked : List Bool) (order : List ℕ) (s : Shows ranked order) where
  free_ready : (a : ℕ) → a < count → Free links ranked a → Ready count links order a
  free_ready a l f = record { activity = l; unranked = λ h. both_ways _ f.0 ((s a).1 h); sources = λ k w e. (s _).0 (f.1 k w e) }

  ready_free : (a : ℕ) → Ready count links order a → Free links ranked a
  ready_free a r = (⊎_elim (λ t. absurd (r.unranked ((s a).0 t))) (λ f. f) (cases_Bool (marked ranked a)), λ k w e. (s _).1 (r.sources k w e))

  least_ready : (a : ℕ) → LeastFree links ranked count (Some a) → Least (Ready count links order) a
  least_ready a f = (free_ready a f.0 f.1.0, λ b l r. f.1.1 b l (ready_free b r))

  none_ready : LeastFree links ranked count None → (a : ℕ) → Ready count links order a → ⊥
  none_ready f a r = f a r.activity (ready_free a r)

-- what the ranking loop keeps: the list holds the first i by rank, and they are marked
pub record Kept (count : ℕ) (links : List Link) (ranked : List Bool) (order : List ℕ) (i : ℕ) : Type 0 where
  pub marks : length ranked ≡ 256
  pub long : length order ≡ i
  pub shown : Shows ranked order
  pub first : order ≡ first_ranked count links i

module _ (count : ℕ) (links : List Link) where
  pub kept_none : Kept count links (replicate 256 false) [] 0
  kept_none = record { marks = refl; long = refl; shown = shows_none 256; first = refl }

  pub kept_more : (ranked : List Bool) (order : List ℕ) (i a : ℕ) → a < 256 → Kept count links ranked order i → LeastFree links ranked count (Some a) → Kept count links (set ranked a true) (order ++ a ∷ []) (i + 1)
  kept_more ranked order i a few k f = record {
    marks = length-set ranked a true ∙ k.marks;
    long = omega (arith, length_push order a, k.long);
    shown = shows_push ranked order a (omega (arith, k.marks)) k.shown;
    first = sym (one_more_is count links order a (least_ready count links ranked order k.shown a f)) ∙ ap (one_more count links) k.first ∙ ap (first_ranked count links) (sym (add-one i));
  }

  pub kept_ranks : (ranked : List Bool) (order : List ℕ) → Kept count links ranked order count → Ranks count links order
  kept_ranks ranked order k = subst (λ xs. Ranks count links xs) (sym k.first) ((worked_out count links).whole (ap length (sym k.first) ∙ k.long))

  -- where none is free before all are ranked, there is no order
  pub none_free : (ranked : List Bool) (order : List ℕ) (i : ℕ) → i < count → Kept count links ranked order i → LeastFree links ranked count None → (xs : List ℕ) → Ranks count links xs → ⊥
  none_free ranked order i l k f = stuck_no_order count links i l (subst (λ xs. (a : ℕ) → Ready count links xs a → ⊥) k.first (none_ready count links ranked order k.shown f))
