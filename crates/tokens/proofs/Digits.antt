-- Numbers that digits write.
use Rattle.std.proofs.Common.{◌≡◌, ℕ, ◌+◌, ◌-◌, ◌*◌, ◌<◌, true, false, ◌&&◌, List, length, get_or, drop, Some, None, sym, ap, ◌∙◌}
use Rattle.std.proofs.lemmas.List.{at_drop_more}
use Rattle.std.proofs.lemmas.Bool.{cond-true, cond-false, and_right}
use Rattle.tokens.specs.Classes.{digit}
use Rattle.tokens.specs.Words.{decimal, all_digits, plain, numeral}

pub decimal_more : (n : ℕ) (bs : List ℕ) (i : ℕ) → i < length bs → decimal n (drop i bs) ≡ decimal (n * 10 + (get_or bs i 0 - 48)) (drop (i + 1) bs)
decimal_more n bs i h = at_drop_more (decimal n) bs i 0 h

pub digits_more : (bs : List ℕ) (i : ℕ) → i < length bs → digit (get_or bs i 0) ≡ true → all_digits (drop i bs) ≡ all_digits (drop (i + 1) bs)
digits_more bs i h e = at_drop_more all_digits bs i 0 h ∙ ap (λ b. b && all_digits (drop (i + 1) bs)) e

pub digits_stop : (bs : List ℕ) (i : ℕ) → i < length bs → digit (get_or bs i 0) ≡ false → all_digits (drop i bs) ≡ false
digits_stop bs i h e = at_drop_more all_digits bs i 0 h ∙ ap (λ b. b && all_digits (drop (i + 1) bs)) e

pub a_numeral : (most : ℕ) (bs : List ℕ) (n : ℕ) → plain most bs ≡ true → n ≡ decimal 0 bs → ◌≡◌ (Some n) (numeral most bs)
a_numeral most bs n p e = ap Some e ∙ sym (cond-true (plain most bs) _ _ p)

pub no_numeral : (most : ℕ) (bs : List ℕ) → all_digits bs ≡ false → None ≡ numeral most bs
no_numeral most bs e = sym (cond-false (plain most bs) _ _ (and_right _ _ e))
