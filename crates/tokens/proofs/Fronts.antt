-- The token at the front, by the class of its first byte.
use Rattle.std.proofs.Common.{◌≡◌, ℕ, suc, ◌+◌, ◌<◌, ◌≤◌, true, ◌⊎◌, List, [], ◌∷◌, length, get_or, take, drop, Some, None, sym, refl, ap, ◌∙◌, inl, inr, ⊎_elim, arith}
use Rattle.std.proofs.lemmas.Bool.{cond-true}
use Rattle.std.proofs.lemmas.Bool.Decides.{nat_tests}
use Rattle.values.specs.declared.amount.Comparison.{Comparison}
use Rattle.values.specs.declared.amount.Comparison.TheVariants.{Less, AtMost, Equal, Unequal, AtLeast, Greater}
use Rattle.tokens.specs.declared.class.Class.{Class}
use Rattle.tokens.specs.declared.class.Class.TheVariants.{Letter, Digit, Minus, Sign}
use Rattle.tokens.specs.declared.token.Token.TheVariants as t
use Rattle.tokens.specs.Classes.{class, word_byte, in_word}
use Rattle.tokens.specs.Tokens.{run, front, front_by, spelling}
use Rattle.tokens.specs.Lexing.{Apt, long_sign, FrontIs}
use Rattle.tokens.proofs.Classes.{minus_class, class_minus, class_sign, sign_class}

pub front_at : (k : Class) (bs : List ℕ) → class (get_or bs 0 0) ≡ k → front bs ≡ front_by k bs
front_at k bs e = ap (λ x. front_by x bs) e

pub front_minus : (bs : List ℕ) → get_or bs 0 0 ≡ 45 → front bs ≡ 1 + run (drop 1 bs)
front_minus bs e = front_at Minus bs (minus_class _ e)

pub take_first : (bs : List ℕ) → 0 < length bs → take 1 bs ≡ get_or bs 0 0 ∷ []
take_first [] h = absurd (omega arith)
take_first (b ∷ bs) h = refl

-- a sign of one byte
pub single_sign : (b : ℕ) (c : Comparison) → b ∷ [] ≡ spelling c → (b ≡ 60) ⊎ ((b ≡ 61) ⊎ (b ≡ 62))
single_sign b Less e = inl (ap (λ l. get_or l 0 0) e)
single_sign b AtMost e = absurd (omega (arith, ap length e))
single_sign b Equal e = inr (inl (ap (λ l. get_or l 0 0) e))
single_sign b Unequal e = absurd (omega (arith, ap length e))
single_sign b AtLeast e = absurd (omega (arith, ap length e))
single_sign b Greater e = inr (inr (ap (λ l. get_or l 0 0) e))

-- a minus alone is none of the other tokens of one byte
pub minus_apt : Apt (t.Other 45)
minus_apt = (
  λ e. let m = minus_class 45 refl in let z : ◌≡◌ {A = ℕ} 0 1 = cc in omega arith,
  λ e. let m = minus_class 45 refl in let z : ◌≡◌ {A = ℕ} 0 1 = cc in omega arith,
  λ e. omega arith,
  λ e. omega arith,
  λ s. ⊎_elim (λ e. omega arith) (⊎_elim (λ e. omega arith) (λ e. omega arith)) (single_sign 45 s.0 s.1),
)

one_byte : (k : Class) (bs : List ℕ) → (k ≡ Letter → ⊥) → (k ≡ Digit → ⊥) → (k ≡ Minus → ⊥) → (k ≡ Sign → front_by k bs ≡ 1) → front_by k bs ≡ 1
one_byte Letter bs l d m s = absurd (l refl)
one_byte Digit bs l d m s = absurd (d refl)
one_byte Minus bs l d m s = absurd (m refl)
one_byte Sign bs l d m s = s refl
one_byte _ bs l d m s = refl

short_sign : (k : Class) (bs : List ℕ) → None ≡ long_sign (get_or bs 0 0) (get_or bs 1 0) → k ≡ class (get_or bs 0 0) → k ≡ Sign → front_by k bs ≡ 1
short_sign k bs n e s = let h = class_sign _ (sym e ∙ s) in rw s (grind (arith, nat_tests))

-- what begins no word, no sign of two bytes and no minus stands alone
pub front_single : (bs : List ℕ) (k : Class) → k ≡ class (get_or bs 0 0) → (k ≡ Letter → ⊥) → (k ≡ Digit → ⊥) → (k ≡ Sign → None ≡ long_sign (get_or bs 0 0) (get_or bs 1 0)) → (get_or bs 0 0 ≡ 45 → ⊥) → front bs ≡ 1
front_single bs k e l d n m = front_at k bs (sym e) ∙ one_byte k bs l d (λ x. m (class_minus _ (sym e ∙ x))) (λ s. short_sign k bs (n s) e s)

long_sign_first : (b c : ℕ) (s : Comparison) → ◌≡◌ (Some s) (long_sign b c) → (b ≡ 60) ⊎ ((b ≡ 61) ⊎ ((b ≡ 62) ⊎ (b ≡ 33)))
long_sign_first b c s e = grind (arith, nat_tests)

-- a sign of two bytes stands at the front
pub front_long_sign : (bs : List ℕ) (s : Comparison) → ◌≡◌ (Some s) (long_sign (get_or bs 0 0) (get_or bs 1 0)) → FrontIs bs (t.Sign s) 2
front_long_sign [] s e = absurd (cc)
front_long_sign (b ∷ []) s e = absurd (cc)
front_long_sign (b ∷ c ∷ bs) s e =
    let first : class b ≡ Sign = sign_class b (long_sign_first b c s e) in
    record { some = omega arith; long = sym (front_at Sign (b ∷ c ∷ bs) first ∙ grind (arith, nat_tests)); bytes_are = grind (arith, nat_tests); apt = tt }

-- a run that begins with a letter or a digit is not empty
pub run_pos : (bs : List ℕ) (k : Class) → in_word k ≡ true → class (get_or bs 0 0) ≡ k → 0 < length bs → 1 ≤ run bs
run_pos [] k w e h = absurd (omega arith)
run_pos (b ∷ bs) k w e h = rw (cond-true (word_byte b) (suc (run bs)) 0 (ap in_word e ∙ w)) (omega arith)
