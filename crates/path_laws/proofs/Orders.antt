-- The rank order: what makes one, and that there is one at most.
use Rattle.std.proofs.Common.{◌≡◌, ℕ, zero, suc, ◌+◌, ◌<◌, ◌≤◌, List, [], ◌∷◌, ◌++◌, length, get_or, take, sym, refl, ap, ◌∙◌, subst, ⊎_elim, add-one, arith}
use Rattle.std.proofs.lemmas.List.{get_or_append_left, get_or_push, get_or-take, length_push, length-take-le, take_more, take_all, take-append-le}
use Rattle.std.proofs.lemmas.Bool.{cases_eq}
use Rattle.parts.specs.declared.Link.{Link}
use Rattle.path_laws.specs.Paths.{Linked, by_link, and_on}
use Rattle.path_laws.specs.Ranks.{Ready, Least, Ranks, OneOrder, PathsLeadForward, first_ranked, rank_order, one_more, WorkedOut}
use Rattle.path_laws.proofs.Pigeonhole.{none_left_out}
use Rattle.path_laws.proofs.WorkedOut.{one_more_tells, one_more_is}

module _ (count : ℕ) (links : List Link) where
  -- the first i of a list are each the least that is ready
  abbrev LeastFirst : List ℕ → ℕ → Type 0
  LeastFirst order i = (j : ℕ) → j < i → Least (Ready count links (take j order)) (get_or order j 0)

  least_first_once : (order : List ℕ) → length order ≡ count → LeastFirst order count → (i j : ℕ) → i < j → j < count → get_or order i 0 ≡ get_or order j 0 → ⊥
  least_first_once order long least i j l w e =
      (least j w).0.unranked (i, omega (arith, length-take-le j order (omega arith)), get_or-take j order i 0 l ∙ e)

  ranks_from : (order : List ℕ) → length order ≡ count → LeastFirst order count → Ranks count links order
  ranks_from order long least =
      let below : (i : ℕ) → i < count → get_or order i 0 < count = λ i l. (least i l).0.activity in
      let once = least_first_once order long least in
      record {
        each_once = record { long = long; below = below; all = none_left_out order count below once long; once = once };
        least = least;
      }

  -- as many as are the least that is ready are those that are worked out
  front_is : (order : List ℕ) (i : ℕ) → i ≤ length order → LeastFirst order i → take i order ≡ first_ranked count links i
  front_is order zero h least = refl
  front_is order (suc i) h least =
      let rec : take i order ≡ first_ranked count links i = front_is order i (omega arith) (λ j l. least j (omega arith)) in
      let more : take (i + 1) order ≡ take i order ++ get_or order i 0 ∷ [] = take_more order i 0 (omega arith) in
      ap (λ k. take k order) (sym (add-one i)) ∙ more ∙ sym (one_more_is count links (take i order) (get_or order i 0) (least i (omega arith))) ∙ ap (one_more count links) rec

  order_is_worked_out : (order : List ℕ) → Ranks count links order → order ≡ rank_order count links
  order_is_worked_out order r =
      sym (take_all count order (omega (arith, r.each_once.long))) ∙ front_is order count (omega (arith, r.each_once.long)) r.least

  pub one_order : OneOrder count links
  one_order xs ys r s = order_is_worked_out xs r ∙ sym (order_is_worked_out ys s)

  least_first_push : (order : List ℕ) (i a : ℕ) → length order ≡ i → LeastFirst order i → Least (Ready count links order) a → LeastFirst (order ++ a ∷ []) (suc i)
  least_first_push order i a long least next j l =
      ⊎_elim
      (λ e.
      subst (λ xs. Least (Ready count links xs) (get_or (order ++ a ∷ []) j 0)) (sym (take-append-le j order (a ∷ []) (omega arith) ∙ take_all j order (omega arith)))
      (subst (λ (x : ℕ). Least (Ready count links order) x) (sym (get_or_push order a 0 j (long ∙ sym e))) next))
      (λ ne.
      subst (λ xs. Least (Ready count links xs) (get_or (order ++ a ∷ []) j 0)) (sym (take-append-le j order (a ∷ []) (omega arith)))
      (subst (λ (x : ℕ). Least (Ready count links (take j order)) x) (sym (get_or_append_left order (a ∷ []) 0 j (omega arith))) (least j (omega arith))))
      (cases_eq j i)

  first_ranked_few : (i : ℕ) → length (first_ranked count links i) ≤ i
  first_ranked_few zero = omega arith
  first_ranked_few (suc i) =
      let order = first_ranked count links i in
      ⊎_elim
      (λ h. omega (arith, first_ranked_few i, ap length h.2, length_push order h.0))
      (λ h. omega (arith, first_ranked_few i, ap length h.1))
      (one_more_tells count links order)

  first_ranked_least : (i : ℕ) → length (first_ranked count links i) ≡ i → LeastFirst (first_ranked count links i) i
  first_ranked_least zero long = λ j l. absurd (omega arith)
  first_ranked_least (suc i) long =
      let order = first_ranked count links i in
      ⊎_elim
      (λ h.
      let short : length order ≡ i = omega (arith, long, ap length h.2, length_push order h.0) in
      subst (λ xs. LeastFirst xs (suc i)) (sym h.2) (least_first_push order i h.0 short (first_ranked_least i short) h.1))
      (λ h. absurd (omega (arith, long, first_ranked_few i, ap length h.1)))
      (one_more_tells count links order)

  pub worked_out : WorkedOut count links
  worked_out = record { only = order_is_worked_out; whole = λ long. ranks_from (rank_order count links) long (first_ranked_least count long) }

  -- where none is ready after the first i, there is no order
  pub stuck_no_order : (i : ℕ) → i < count → ((a : ℕ) → Ready count links (first_ranked count links i) a → ⊥) → (order : List ℕ) → Ranks count links order → ⊥
  stuck_no_order i l stuck order r =
      let front = front_is order i (omega (arith, r.each_once.long)) (λ j h. r.least j (omega arith)) in
      stuck (get_or order i 0) (subst (λ xs. Ready count links xs (get_or order i 0)) front (r.least i l).0)

  -- a link leads forward
  leads_forward : (order : List ℕ) → Ranks count links order → (a b j : ℕ) → j < count → get_or order j 0 ≡ b → Linked links a b → (i : ℕ) × (i < j) × (get_or order i 0 ≡ a)
  leads_forward order r a b j l e s =
      let h = (r.least j l).0.sources s.number s.within (s.target_is ∙ sym e) in
      let before : h.0 < j = omega (arith, h.1, length-take-le j order (omega (arith, r.each_once.long))) in
      (h.0, before, sym (get_or-take j order h.0 0 before) ∙ h.2 ∙ s.source_is)

  pub paths_lead_forward : PathsLeadForward count links
  paths_lead_forward order r a b j l e (by_link s) = leads_forward order r a b j l e s
  paths_lead_forward order r a b j l e (and_on {b = m} p s) =
      let last = leads_forward order r m b j l e s in
      let first = paths_lead_forward order r a m last.0 (omega (arith, last.1)) last.2 p in
      (first.0, omega (arith, first.1, last.1), first.2)
