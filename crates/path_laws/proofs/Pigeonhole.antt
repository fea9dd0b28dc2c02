-- A list of fewer than n numbers leaves out one below n, and n different ones below n are all of them.
use Rattle.std.proofs.Common.{◌≡◌, ◌≢◌, ℕ, zero, suc, ◌+◌, ◌<◌, ◌≤◌, Bool, true, false, not, eqb, List, ◌∷◌, length, get_or, set, replicate, Some, None, Option, sym, ap, ◌∙◌, ⊎_elim, arith}
use Rattle.std.specs.List.{AllPairs, list_any}
use Rattle.std.proofs.lemmas.List.{get_or_default, get_or-set_same, length-replicate, length-set}
use Rattle.std.proofs.lemmas.List.Folds.{list_any_at}
use Rattle.std.proofs.lemmas.Map.Made.{IsDistinct-from_AllPairs}
use Rattle.std.proofs.lemmas.Map.Steps.{length-le_from_distinct_below, le-length_from_below}
use Rattle.std.proofs.lemmas.Map.Views.{Contains-from_any}
use Rattle.std.proofs.lemmas.Bool.{cases_eq, cases_Bool, both_ways, eq-eqb, eqb-true}
use Rattle.std.proofs.lemmas.Bool.Decides.{Decides-eqb, not_from_Decides}
use Rattle.path_laws.specs.Marks.{marked, unmarked}
use Rattle.path_laws.specs.Ranks.{Listed, lists, least_below}
use Rattle.path_laws.proofs.Listing.{lists_decides}
use Rattle.path_laws.proofs.Marks.{none_marked, all_unmarked, mark_fewer, mark_one_fewer, marked_more, marked_kept}
use Rattle.path_laws.proofs.WorkedOut.{Found, found}

module _ (xs : List ℕ) (n : ℕ) where
  -- the marks that the first i make on n places
  abbrev marks : ℕ → List Bool
  marks zero = replicate n false
  marks (suc i) = set (marks i) (get_or xs i 0) true

  length_marks : (i : ℕ) → length (marks i) ≡ n
  length_marks zero = length-replicate n false
  length_marks (suc i) = length-set (marks i) (get_or xs i 0) true ∙ length_marks i

  marked_stands : (i a : ℕ) → marked (marks i) a ≡ true → (k : ℕ) × (k < i) × (get_or xs k 0 ≡ a)
  marked_stands zero a m = absurd (both_ways _ (none_marked n a) m)
  marked_stands (suc i) a m =
      ⊎_elim
      (λ e. (i, omega arith, sym e))
      (λ ne. let r = marked_stands i a (marked_more (marks i) (get_or xs i 0) a m ne) in (r.0, omega (arith, r.1), r.2))
      (cases_eq a (get_or xs i 0))

  stands_marked : (i k : ℕ) → k < i → get_or xs k 0 < n → marked (marks i) (get_or xs k 0) ≡ true
  stands_marked zero k l w = absurd (omega arith)
  stands_marked (suc i) k l w =
      ⊎_elim
      (λ e. rw e (get_or-set_same (marks i) (get_or xs i 0) true false (omega (arith, length_marks i, ap (λ j. get_or xs j 0) e))))
      (λ ne. marked_kept (marks i) (get_or xs i 0) (get_or xs k 0) (omega (arith, length_marks i)) (stands_marked i k (omega arith) w))
      (cases_eq k i)

  at_most : (i : ℕ) → n ≤ unmarked (marks i) + i
  at_most zero = omega (arith, all_unmarked n)
  at_most (suc i) = omega (arith, at_most i, mark_one_fewer (marks i) (get_or xs i 0))

  -- different numbers below n are marked one by one
  module _ (below : (i : ℕ) → i < n → get_or xs i 0 < n) (once : (i j : ℕ) → i < j → j < n → get_or xs i 0 ≡ get_or xs j 0 → ⊥) where
    fresh : (i : ℕ) → i < n → marked (marks i) (get_or xs i 0) ≡ false
    fresh i l = ⊎_elim (λ t. let r = marked_stands i (get_or xs i 0) t in absurd (once r.0 i r.1 l r.2)) (λ f. f) (cases_Bool (marked (marks i) (get_or xs i 0)))

    exactly : (i : ℕ) → i ≤ n → unmarked (marks i) + i ≡ n
    exactly zero l = omega (arith, all_unmarked n)
    exactly (suc i) l = omega (arith, exactly i (omega arith), mark_fewer (marks i) (get_or xs i 0) (omega (arith, length_marks i, below i (omega arith))) (fresh i (omega arith)))

  left_out : (o : Option ℕ) → Found (λ a. not (lists xs a)) n o → length xs < n → (a : ℕ) × (a < n) × (Listed xs a → ⊥)
  left_out (Some a) f few = (a, f.0, λ h. both_ways (not (lists xs a)) (ap not ((lists_decides xs a).1 h)) f.1)
  left_out None f few =
      let named : (a : ℕ) → a < n → list_any (eqb a) xs ≡ true = λ a l. ⊎_elim
      (λ t. let h = (lists_decides xs a).0 t in list_any_at (eqb a) xs h.0 0 h.1 (eq-eqb a (get_or xs h.0 0) (sym h.2)))
      (λ u. absurd (both_ways (not (lists xs a)) (f a l) (ap not u)))
      (cases_Bool (lists xs a)) in
      absurd (omega (arith, few, le-length_from_below xs n named))

  -- a list of fewer than n leaves one out
  pub one_left_out : length xs < n → (a : ℕ) × (a < n) × (Listed xs a → ⊥)
  one_left_out = left_out (least_below (λ a. not (lists xs a)) n) (found (λ a. not (lists xs a)) n)

  -- n different numbers below n are all of them
  module _ (below : (i : ℕ) → i < n → get_or xs i 0 < n) (once : (i j : ℕ) → i < j → j < n → get_or xs i 0 ≡ get_or xs j 0 → ⊥) (long : length xs ≡ n) (a : ℕ) (l : a < n) where
    apart : (Listed xs a → ⊥) → AllPairs (λ x y. x ≢ y) (a ∷ xs)
    apart out zero zero d i w e = omega arith
    apart out (suc i) zero d k w e = omega arith
    apart out zero (suc j) d k w e = out (j, omega arith, get_or_default xs j 0 d (omega arith) ∙ sym e)
    apart out (suc i) (suc j) d k w e = once i j (omega arith) (omega arith) (get_or_default xs i 0 d (omega arith) ∙ e ∙ get_or_default xs j d 0 (omega arith))

    all_below : (q k : ℕ) → k < length (a ∷ xs) → get_or (a ∷ xs) k q ≡ q → q < n
    all_below q zero w e = omega arith
    all_below q (suc k) w e = omega (arith, below k (omega arith), get_or_default xs k 0 q (omega arith))

    too_many : (Listed xs a → ⊥) → ⊥
    too_many out =
        let many = length-le_from_distinct_below (a ∷ xs) n (IsDistinct-from_AllPairs (λ x y. Decides-eqb x y) (a ∷ xs) (apart out)) (λ q t. let h = Contains-from_any eqb-true q (a ∷ xs) t in all_below q h.0 h.1 h.2) in
        omega (arith, many)

    pub none_left_out : Listed xs a
    none_left_out = ⊎_elim (λ t. (lists_decides xs a).0 t) (λ f. absurd (too_many (not_from_Decides (lists xs a) (lists_decides xs a) f))) (cases_Bool (lists xs a))
