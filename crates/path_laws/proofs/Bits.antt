-- The bits of numbers and of their disjunction.
use Rattle.std.proofs.Common.{◌≡◌, ℕ, zero, suc, ◌*◌, ◌/◌, ◌%◌, ◌^◌, ◌<◌, ◌≤◌, max, Bool, true, false, ◌||◌, eqb, ◌⊎◌, Decides, sym, refl, ap, ◌∙◌, ap₂, ⊎_elim, arith}
use lib.Bits.{bit_and, bit_or}
use Rattle.std.specs.Int.{bit_at}
use Rattle.std.proofs.lemmas.Nat.{one_shl}
use Rattle.std.proofs.lemmas.Nat.Bits.{shr_and_one, bit_at-zero, bit_at_or, bit_at_above, bit_at-pow_same, bit_at-pow_other, bit_at-lt, same_from_bits}
use Rattle.std.proofs.lemmas.Bool.{cases_eq, both_ways, eq-eqb, eqb-true, or_left}
use Rattle.std.proofs.lemmas.Bool.Decides.{Decides-at, Decides-like, Decides-or}
use Rattle.path_laws.specs.Bits.{bit}

abbrev is_one : ℕ → Bool
is_one x = eqb x 1

pub bit_is : (n a : ℕ) → bit n a ≡ is_one (bit_at n a)
unfolding bit
bit_is n a = refl

-- a shift and a mask read a bit
pub bit_read : (n a : ℕ) → bit n a ≡ eqb (bit_and (n / 2 ^ a) 1) 1
bit_read n a = bit_is n a ∙ ap is_one (sym (shr_and_one n a))

pub bit_none : (a : ℕ) → bit 0 a ≡ false
bit_none a = bit_is 0 a ∙ ap is_one (bit_at-zero a)

digit_or : (x y : ℕ) → x < 2 → y < 2 → is_one (max x y) ≡ (is_one x || is_one y)
digit_or zero y h k = let m : max 0 y ≡ y = omega arith in ap is_one m
digit_or (suc zero) zero h k = refl
digit_or (suc zero) (suc zero) h k = refl
digit_or (suc zero) (suc (suc y)) h k = absurd (omega arith)
digit_or (suc (suc x)) y h k = absurd (omega arith)

pub bit_of_or : (x y a : ℕ) → bit (bit_or x y) a ≡ (bit x a || bit y a)
bit_of_or x y a =
    bit_is (bit_or x y) a
    ∙ ap is_one (bit_at_or x y a)
    ∙ digit_or (bit_at x a) (bit_at y a) (bit_at-lt x a) (bit_at-lt y a)
    ∙ ap₂ ◌||◌ (sym (bit_is x a)) (sym (bit_is y a))

-- a number below 2 ^ k has no bit from k on
pub bit_past : (n k a : ℕ) → n < 2 ^ k → k ≤ a → bit n a ≡ false
bit_past n k a h l = bit_is n a ∙ ap is_one (bit_at_above n k a h l)

-- 2 ^ a has bit a alone
pub bit_one : (a b : ℕ) → Decides (bit (2 ^ a) b) (b ≡ a)
bit_one a b =
    ⊎_elim
    (λ e. let set : bit_at (2 ^ a) b ≡ 1 = rw e (bit_at-pow_same a) in (λ _. e, λ _. bit_is (2 ^ a) b ∙ ap is_one set))
    (λ ne. (λ t. absurd (both_ways _ (bit_is (2 ^ a) b ∙ ap is_one (bit_at-pow_other a b ne)) t), λ e. absurd (ne e)))
    (cases_eq b a)

digit_same : (x y : ℕ) → x < 2 → y < 2 → is_one x ≡ is_one y → x ≡ y
digit_same zero zero h k e = refl
digit_same zero (suc zero) h k e = cc
digit_same zero (suc (suc y)) h k e = absurd (omega arith)
digit_same (suc zero) zero h k e = cc
digit_same (suc zero) (suc zero) h k e = refl
digit_same (suc zero) (suc (suc y)) h k e = absurd (omega arith)
digit_same (suc (suc x)) y h k e = absurd (omega arith)

-- numbers with the same bits are the same
pub bits_same : (x y : ℕ) → ((a : ℕ) → bit x a ≡ bit y a) → x ≡ y
bits_same x y same = same_from_bits x y (λ a. digit_same (bit_at x a) (bit_at y a) (bit_at-lt x a) (bit_at-lt y a) (sym (bit_is x a) ∙ same a ∙ bit_is y a))

-- a disjunction adds nothing to the second where this has the bits of the first
pub or_adds_none : (x y : ℕ) → Decides (eqb (bit_or x y) y) ((a : ℕ) → bit x a ≡ true → bit y a ≡ true)
or_adds_none x y = (
  λ t a m. ap (λ (n : ℕ). bit n a) (sym (eqb-true (bit_or x y) y t)) ∙ bit_of_or x y a ∙ or_left (bit x a) (bit y a) m,
  λ within. eq-eqb (bit_or x y) y (bits_same (bit_or x y) y (λ a. bit_of_or x y a ∙ absorbed (bit x a) (bit y a) (within a))),
)
  where
    absorbed : (s t : Bool) → (s ≡ true → t ≡ true) → (s || t) ≡ t
    absorbed true t f = sym (f refl)
    absorbed false t f = refl

-- a disjunction with a shifted 1, in w places, sets one bit more
pub bit_more : (w n a : ℕ) → a < w → (b : ℕ) → Decides (bit (bit_or n ((1 * 2 ^ a) % 2 ^ w)) b) ((bit n b ≡ true) ⊎ ((b ≡ a) × (b < w)))
bit_more w n a l b =
    Decides-at (bit (bit_or n ((1 * 2 ^ a) % 2 ^ w)) b) (bit n b || bit (2 ^ a) b) (ap (λ (x : ℕ). bit (bit_or n x) b) (one_shl a w l) ∙ bit_of_or n (2 ^ a) b)
    (Decides-or (bit n b) (bit (2 ^ a) b) (λ t. t, λ t. t) (Decides-like (bit (2 ^ a) b) (λ e. (e, omega (arith, e, l))) (λ e. e.0) (bit_one a b)))
