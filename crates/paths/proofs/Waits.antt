-- The free activities, waiting in a pool.
use Rattle.std.proofs.Common.{◌≡◌, ℕ, ◌+◌, ◌<◌, ◌≤◌, Bool, List, [], ◌∷◌, ◌++◌, length, get_or, Some, Ok, Err, Result, sym, refl, ap, ◌∙◌, subst, ⊎_elim, arith}
use Rattle.std.specs.Option.{option_map}
use Rattle.std.specs.Result.{result_ok}
use Rattle.std.proofs.lemmas.List.{get_or_append_left, get_or_push, get_or_default, length_push}
use Rattle.std.proofs.lemmas.Bool.{cases_eq, cases_lt}
use Rattle.pools.specs.declared.kinds.ActivityNumber.{ActivityNumber}
use Rattle.pools.specs.declared.held.Pool.{Pool}
use Rattle.pools.specs.declared.refusal.PoolRefusal.{PoolRefusal}
use Rattle.pools.specs.Contents.{contents, room, Added, AddAnswers, TakeAnswers}
use Rattle.pools.specs.Kinds.{number_before}
use Rattle.parts.specs.declared.Link.{Link}
use Rattle.path_laws.specs.Free.{Free, LeastFree}

abbrev zeroth : ActivityNumber
zeroth = record { 0 = 0 }

abbrev number_at : List ActivityNumber → ℕ → ℕ
number_at xs k = (get_or xs k zeroth).0

-- xs are the free activities below a
pub record Waits (links : List Link) (ranked : List Bool) (xs : List ActivityNumber) (a : ℕ) : Type 0 where
  pub few : length xs ≤ a
  pub free : (k : ℕ) → k < length xs → Free links ranked (number_at xs k) × (number_at xs k < a)
  pub all : (b : ℕ) → b < a → Free links ranked b → (k : ℕ) × (k < length xs) × (number_at xs k ≡ b)

module _ (links : List Link) (ranked : List Bool) where
  pub waits_skip : (xs : List ActivityNumber) (a : ℕ) → (Free links ranked a → ⊥) → Waits links ranked xs a → Waits links ranked xs (a + 1)
  waits_skip xs a taken w = record {
    few = omega (arith, w.few);
    free = λ k h. ((w.free k h).0, omega (arith, (w.free k h).1));
    all = λ b h f. ⊎_elim (λ e. absurd (taken (subst (λ (x : ℕ). Free links ranked x) e f))) (λ ne. w.all b (omega arith) f) (cases_eq b a);
  }

  pub waits_push : (xs : List ActivityNumber) (a : ℕ) (x : ActivityNumber) → x.0 ≡ a → Free links ranked a → Waits links ranked xs a → Waits links ranked (xs ++ x ∷ []) (a + 1)
  waits_push xs a x e fr w =
      let long = length_push xs x in
      let last : number_at (xs ++ x ∷ []) (length xs) ≡ a = ap (λ (n : ActivityNumber). n.0) (get_or_push xs x zeroth (length xs) refl) ∙ e in
      let old : (k : ℕ) → k < length xs → number_at (xs ++ x ∷ []) k ≡ number_at xs k = λ k h. ap (λ (n : ActivityNumber). n.0) (get_or_append_left xs (x ∷ []) zeroth k h) in
      record {
        few = omega (arith, w.few);
        free = λ k h. ⊎_elim
            (λ l. (subst (λ (y : ℕ). Free links ranked y) (sym (old k l)) (w.free k l).0, omega (arith, old k l, (w.free k l).1)))
            (λ ge.
            let ke : length xs ≡ k = omega arith in
            let v : number_at (xs ++ x ∷ []) k ≡ a = subst (λ (j : ℕ). number_at (xs ++ x ∷ []) j ≡ a) ke last in
            (subst (λ (y : ℕ). Free links ranked y) (sym v) fr, omega (arith, v)))
            (cases_lt k (length xs));
        all = λ b h f. ⊎_elim
            (λ be. (length xs, omega arith, last ∙ sym be))
            (λ ne. let r = w.all b (omega arith) f in (r.0, omega (arith, r.1), old r.0 r.1 ∙ r.2))
            (cases_eq b a);
      }

  -- one that none comes before is the least that is free
  pub waits_least : (xs : List ActivityNumber) (n i : ℕ) (x : ActivityNumber) → i < length xs → x ≡ get_or xs i x → ((k : ℕ) (d : ActivityNumber) → k < length xs → number_before (get_or xs k d) x → ⊥) → Waits links ranked xs n → LeastFree links ranked n (Some x.0)
  waits_least xs n i x l stood least w =
      let here : number_at xs i ≡ x.0 = ap (λ (m : ActivityNumber). m.0) (get_or_default xs i zeroth x l ∙ sym stood) in
      let f = w.free i l in
      let none : (b : ℕ) → b < x.0 → Free links ranked b → ⊥ = λ b h fr. let r = w.all b (omega (arith, f.1, here)) fr in least r.0 zeroth r.1 (omega (arith, r.2)) in
      (omega (arith, f.1, here), (subst (λ (y : ℕ). Free links ranked y) here f.0, none))

  -- so is what is taken, and where nothing is, none is free
  pub waits_taken : (p q : Pool ActivityNumber) (r : Result ActivityNumber PoolRefusal) (n : ℕ) → TakeAnswers number_before p q r → Waits links ranked (contents p) n → LeastFree links ranked n (option_map (λ x. x.0) (result_ok r))
  waits_taken p q (Ok x) n t w = let out = t.least_out in waits_least (contents p) n out.at x out.out.within out.out.stood out.least w
  waits_taken p q (Err e) n t w = λ a l f. let r = w.all a l f in omega (arith, r.1, ap length t.0)

-- an element goes in where a place is free
pub has_room : {X : Type 0} (p : Pool X) (x : X) (q : Pool X) (r : Result (Unit {0}) PoolRefusal) → AddAnswers p x q r → length (contents p) < room p → Added p x q
has_room p x q (Ok u) h l = h
has_room p x q (Err e) h l = absurd (omega (arith, h.0))
