-- What tokens of signs, of parentheses and of other bytes say.
use Rattle.std.proofs.Common.{◌≡◌, ℕ, List, [], ◌∷◌, refl, ap, inl, inr, arith}
use Rattle.std.proofs.lemmas.Bool.Decides.{nat_tests}
use Rattle.values.specs.declared.amount.Comparison.{Comparison}
use Rattle.values.specs.declared.amount.Comparison.TheVariants.{Less, AtMost, Equal, Unequal, AtLeast, Greater}
use Rattle.grammar.specs.Symbols.{opening, closing, sign, bad}
use Rattle.tokens.specs.declared.class.Class.{Class}
use Rattle.tokens.specs.declared.class.Class.TheVariants.{Letter, Digit, Minus, Sign, Parenthesis}
use Rattle.tokens.specs.declared.token.Token.TheVariants as t
use Rattle.tokens.specs.Classes.{class}
use Rattle.tokens.specs.Tokens.{spelling}
use Rattle.tokens.specs.Words.{symbol, symbol_by}
use Rattle.tokens.specs.Lexing.{Apt}
use Rattle.tokens.proofs.Classes.{opening_class, closing_class, sign_class, class_minus}

at_class : (k : Class) (b : ℕ) (bs : List ℕ) → class b ≡ k → symbol (b ∷ bs) ≡ symbol_by k (b ∷ bs)
at_class k b bs e = ap (λ x. symbol_by x (b ∷ bs)) e

pub opening_says : symbol (40 ∷ []) ≡ opening
opening_says = at_class Parenthesis 40 [] opening_class

pub closing_says : symbol (41 ∷ []) ≡ closing
closing_says = at_class Parenthesis 41 [] closing_class

pub sign_says : (c : Comparison) → symbol (spelling c) ≡ sign c
sign_says Less = at_class Sign 60 _ (sign_class 60 (inl refl))
sign_says AtMost = at_class Sign 60 _ (sign_class 60 (inl refl))
sign_says Equal = at_class Sign 61 _ (sign_class 61 (inr (inl refl)))
sign_says Unequal = at_class Sign 33 _ (sign_class 33 (inr (inr (inr refl))))
sign_says AtLeast = at_class Sign 62 _ (sign_class 62 (inr (inr (inl refl))))
sign_says Greater = at_class Sign 62 _ (sign_class 62 (inr (inr (inl refl))))

other_by : (k : Class) (b : ℕ) → class b ≡ k → Apt (t.Other b) → symbol_by k (b ∷ []) ≡ bad
other_by Letter b e apt = absurd (apt.0 e)
other_by Digit b e apt = absurd (apt.1 e)
other_by Minus b e apt = ap (λ x. symbol_by Minus (x ∷ [])) (class_minus b e)
other_by Sign b e apt =
    let less : b ≡ 60 → ⊥ = λ h. apt.4 (Less, ap (λ x. x ∷ []) h) in
    let equal : b ≡ 61 → ⊥ = λ h. apt.4 (Equal, ap (λ x. x ∷ []) h) in
    let greater : b ≡ 62 → ⊥ = λ h. apt.4 (Greater, ap (λ x. x ∷ []) h) in
    grind (arith, nat_tests)
other_by Parenthesis b e apt = let open_not = apt.2 in let close_not = apt.3 in grind (arith, nat_tests)
other_by _ b e apt = refl

pub other_says : (b : ℕ) → Apt (t.Other b) → symbol (b ∷ []) ≡ bad
other_says b apt = other_by (class b) b refl apt
