-- Which bytes have a class.
use Rattle.std.proofs.Common.{◌≡◌, ℕ, true, ◌⊎◌, refl, inl, inr, ⊎_elim, arith}
use Rattle.std.proofs.lemmas.Bool.{cases_eq, false≢true}
use Rattle.std.proofs.lemmas.Bool.Decides.{nat_tests}
use Rattle.tokens.specs.declared.class.Class.{Class}
use Rattle.tokens.specs.declared.class.Class.TheVariants.{Space, Minus, Sign, Parenthesis}
use Rattle.tokens.specs.Classes.{class, space_byte, is_space}

pub minus_class : (b : ℕ) → b ≡ 45 → class b ≡ Minus
unfolding class
minus_class b e = grind (arith, nat_tests)

pub class_minus : (b : ℕ) → class b ≡ Minus → b ≡ 45
unfolding class
class_minus b e = grind (arith, nat_tests)

pub class_space : (b : ℕ) → class b ≡ Space → b ≡ 32
unfolding class
class_space b e = grind (arith, nat_tests)

pub class_sign : (b : ℕ) → class b ≡ Sign → (b ≡ 60) ⊎ ((b ≡ 61) ⊎ ((b ≡ 62) ⊎ (b ≡ 33)))
unfolding class
class_sign b e =
    ⊎_elim inl (λ a. ⊎_elim (λ h. inr (inl h)) (λ c. ⊎_elim (λ h. inr (inr (inl h))) (λ d. inr (inr (inr (grind (arith, nat_tests))))) (cases_eq b 62)) (cases_eq b 61)) (cases_eq b 60)

pub class_parenthesis : (b : ℕ) → class b ≡ Parenthesis → (b ≡ 40) ⊎ (b ≡ 41)
unfolding class
class_parenthesis b e = ⊎_elim inl (λ a. inr (grind (arith, nat_tests))) (cases_eq b 40)

pub space_class : (b : ℕ) → b ≡ 32 → class b ≡ Space
unfolding class
space_class b e = grind (arith, nat_tests)

pub sign_class : (b : ℕ) → (b ≡ 60) ⊎ ((b ≡ 61) ⊎ ((b ≡ 62) ⊎ (b ≡ 33))) → class b ≡ Sign
unfolding class
sign_class b e = grind (arith, nat_tests)

is_space_only : (k : Class) → is_space k ≡ true → k ≡ Space
is_space_only Space e = refl
is_space_only _ e = absurd (false≢true e)

pub space_byte_only : (b : ℕ) → space_byte b ≡ true → b ≡ 32
space_byte_only b e = class_space b (is_space_only (class b) e)

-- the classes of the parentheses
pub opening_class : class 40 ≡ Parenthesis
unfolding class
opening_class = refl

pub closing_class : class 41 ≡ Parenthesis
unfolding class
closing_class = refl
