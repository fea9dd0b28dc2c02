-- What a token of a condition text says.
use Rattle.std.specs.Prelude.{ℕ, Bool, ℤ}
use Rattle.values.specs.declared.amount.Comparison.{Comparison}

-- a side of a comparison: a field by its number, or a number
pub data Operand : Type 0 where
  field : ℕ → Operand
  number : ℤ → Operand

pub data Symbol : Type 0 where
  or_word : Symbol
  and_word : Symbol
  not_word : Symbol
  truth_word : Bool → Symbol
  opening : Symbol
  closing : Symbol
  operand : Operand → Symbol
  sign : Comparison → Symbol
  link_word : ℕ → Symbol
  bad : Symbol
