-- The range of an amount, and what each comparison says of two whole numbers.
use Rattle.std.specs.Prelude.{◌≡◌, Bool, not, ◌&&◌, ◌||◌, ℤ, pos, negsuc, ◌≤ℤ◌, ◌<ℤ◌, int_lt}
use Rattle.values.specs.declared.amount.Amount.{Amount}
use Rattle.values.specs.declared.amount.Comparison.{Comparison}
use Rattle.values.specs.declared.amount.Comparison.TheVariants.{Less, AtMost, Equal, Unequal, AtLeast, Greater}

-- strictly between -10^12 and 10^12
abbrev pub InRange : ℤ → Type 0
InRange z = (negsuc 999_999_999_999 <ℤ z) × (z <ℤ pos 1_000_000_000_000)

-- the whole number that an amount is
abbrev pub size : Amount → ℤ
size a = a.value

abbrev pub Holds : Comparison → ℤ → ℤ → Type 0
Holds Less a b = a <ℤ b
Holds AtMost a b = a ≤ℤ b
Holds Equal a b = a ≡ b
Holds Unequal a b = a ≡ b → ⊥
Holds AtLeast a b = b ≤ℤ a
Holds Greater a b = b <ℤ a

-- the same, computed
abbrev pub holds : Comparison → ℤ → ℤ → Bool
holds Less a b = int_lt a b
holds AtMost a b = not (int_lt b a)
holds Equal a b = not (int_lt a b) && not (int_lt b a)
holds Unequal a b = int_lt a b || int_lt b a
holds AtLeast a b = not (int_lt a b)
holds Greater a b = int_lt b a
