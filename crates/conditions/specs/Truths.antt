-- The truth values of conditions, the tables of not, and, or, and what a comparison gives.
use Rattle.std.specs.Prelude.{Bool, false, not, ◌&&◌, ◌||◌, ℤ, Some, None, Option}
use Rattle.values.specs.declared.amount.Comparison.{Comparison}
use Rattle.values.specs.declared.field.Field.{Field}
use Rattle.values.specs.declared.field.Field.TheVariants.{Blank, Number}
use Rattle.values.specs.Amounts as amounts

abbrev pub Truth : Type 0
Truth = Bool

abbrev pub of_bool : Bool → Truth
of_bool b = b

abbrev pub negated : Truth → Truth
negated a = not a

abbrev pub both : Truth → Truth → Truth
both a b = a && b

abbrev pub either : Truth → Truth → Truth
either a b = a || b

-- a link asks only this of the value of its text
abbrev pub holds : Truth → Bool
holds a = a

-- the number in a field, if there is one
abbrev pub amount_of : Field → Option ℤ
amount_of Blank = None
amount_of (Number a) = Some (amounts.size a)

-- a comparison with a blank is false for every sign
abbrev pub blank_compared : Truth
blank_compared = false

abbrev pub compared : Comparison → Option ℤ → Option ℤ → Truth
compared c None y = blank_compared
compared c (Some a) None = blank_compared
compared c (Some a) (Some b) = of_bool (amounts.holds c a b)
