-- The numbers of a byte from 0 on, of which the first that reaches itself is found.
use Rattle.std.proofs.Common.{◌≡◌, ℕ, ◌<◌, ◌≤◌, Bool, true, false, List, Some, None, Option, sym, ◌∙◌, subst, ⊎_elim, zero-add, arith}
use denote.Param.Members.{Mut}
use denote.Ref.{Bor}
use Rattle.std.specs.Bool.{IsTrue}
use Rattle.std.specs.Fn.{CalledAt}
use Rattle.std.specs.Iterator.Runs.{Run, HasSameItems, ItemsCountUp, CallKeepsClosure, NoItemPasses, EndsAtFirstPassing}
use Rattle.std.specs.Option.{IfSome, IsSomeAnd, MatchOption, option_map}
use Rattle.std.proofs.lemmas.Bool.{cases_lt}
use Rattle.parts.specs.declared.Link.{Link}
use Rattle.path_laws.specs.Paths.{Reaches}
use Rattle.paths.specs.Cycles.{LeastOnCycle}

same_number : (o : Option ℕ) (v : ℕ) → option_map (λ y. y) o ≡ Some v → o ≡ Some v
same_number (Some x) v e = e
same_number None v e = e

module _ (links : List Link) (count : ℕ) {S T : Type 0} {steps : S → Option ℕ → S → Type 0} {source : T → Option ℕ → T → Type 0} (u : Run steps) (q : Run source) (same : HasSameItems u q) (few : u.len ≤ count) (whole : IsTrue u.whole → u.len < count → IsTrue q.whole) (up : ItemsCountUp q 0 256) where
  number : (k : ℕ) → k < u.len → u.at k ≡ Some k
  number k l = sym (same.2 k) ∙ same_number (q.at k) k (simp zero-add at (up.3 k (omega (arith, same.0))))

  module _ {F : Type 0} (g : Mut F (Bor ℕ × Unit {0}) Bool) (f : F) (keeps : CallKeepsClosure g f) (yes : (x : ℕ) → CalledAt g f x true f → Reaches links x x) (no : (x : ℕ) → CalledAt g f x false f → Reaches links x x → ⊥) where
    pub first_on_cycle : (r : Option ℕ) → MatchOption r (IsTrue u.whole × NoItemPasses u g f) (EndsAtFirstPassing u g f) → LeastOnCycle links count r
    first_on_cycle None h = λ a c.
        let within : a < u.len = ⊎_elim (λ short. omega (arith, up.1 (whole h.0 short), same.0, c)) (λ enough. omega (arith, c)) (cases_lt u.len count) in
        no a (subst (λ o. IfSome o (λ x. CalledAt g f x false f)) (number a within) (h.1 keeps a)) c.2
    first_on_cycle (Some x) h =
        let here : h.0 ≡ x = let n = number h.0 (omega arith) in cc in
        let met = h.3 keeps in
        ((omega arith, omega (arith, up.0, same.0), yes x met.0), λ b l c. no b (subst (λ o. IsSomeAnd o (λ y. CalledAt g f y false f)) (number b (omega arith)) (met.1 b (omega arith))) c.2)
