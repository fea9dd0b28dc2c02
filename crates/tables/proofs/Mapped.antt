-- What `map` makes of an array, where its closure computes a function.
use Rattle.std.proofs.Common.{◌≡◌, ℕ, zero, suc, ◌+◌, ◌<◌, ◌≤◌, List, length, get_or, map, sym, ap, ◌∙◌, subst, ⊎_elim, arith}
use denote.Param.Members.{Mut}
use Rattle.std.specs.Fn.{Called}
use Rattle.std.specs.Array.{MapsFrom, IsMapOf}
use Rattle.std.proofs.Math.ListN.{get_or-map}
use Rattle.std.proofs.lemmas.Bool.{cases_lt}
use Rattle.std.proofs.lemmas.List.{ext_get_or, length-map}

module _ {F A B : Type 0} (g : Mut F (A × Unit {0}) B) (f : F) (h : A → B) (one : (x : A) (y : B) (q : F) → Called g f (x, tt) y q → (q ≡ f) × (y ≡ h x)) where
  at_each : (n i : ℕ) (xs : List A) (ys : List B) → MapsFrom g f xs ys i n → (k : ℕ) (d : A) → i ≤ k → k < i + n → get_or ys k (h d) ≡ h (get_or xs k d)
  at_each zero i xs ys m k d low high = absurd (omega arith)
  at_each (suc n) i xs ys m k d low high =
      let call = one m.1 m.2 m.0 m.5 in
      ⊎_elim
      (λ l. at_each n (i + 1) xs ys (subst (λ s. MapsFrom g s xs ys (i + 1) n) call.0 m.6) k d (omega arith) (omega arith))
      (λ l.
      let here : k ≡ i = omega arith in
      ap (λ j. get_or ys j (h d)) here ∙ m.4.1 (h d) ∙ call.1 ∙ ap h (sym (ap (λ j. get_or xs j d) here ∙ m.3.1 d)))
      (cases_lt i k)

  pub mapped : (xs : List A) (ys : List B) (n : ℕ) (d : A) → IsMapOf g f xs ys n → length xs ≡ n → ys ≡ map h xs
  mapped xs ys n d m long =
      ext_get_or (h d) ys (map h xs) (m.long ∙ sym (length-map xs h ∙ long))
      (λ k l. at_each n 0 xs ys m.each k d (omega arith) (omega (arith, m.long)) ∙ sym (get_or-map h xs k d))
