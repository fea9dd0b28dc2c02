-- The symbols of the code, as those of the grammar.
use Rattle.std.specs.Prelude.{◌≡◌, ℕ, ◌+◌, ◌<◌, ◌≤◌, ◌⊎◌, Some, None, Option}
use Rattle.values.specs.declared.field.FieldNumber.{FieldNumber}
use Rattle.values.specs.Amounts.{size}
use Rattle.grammar.specs.Symbols as g
use Rattle.tokens.specs.declared.symbol.Symbol.{Symbol}
use Rattle.tokens.specs.declared.symbol.Symbol.TheVariants.{Or, And, Not, Truth, Open, Close, Operand, Sign, Link}
use Rattle.tokens.specs.declared.symbol.Operand as operands
use Rattle.tokens.specs.declared.symbol.Operand.TheVariants as o

abbrev pub side : operands.Operand → g.Operand
side (o.Field n) = g.field n.number
side (o.Number a) = g.number (size a)

abbrev pub meaning : Symbol → g.Symbol
meaning Or = g.or_word
meaning And = g.and_word
meaning Not = g.not_word
meaning (Truth b) = g.truth_word b
meaning Open = g.opening
meaning Close = g.closing
meaning (Operand x) = g.operand (side x)
meaning (Sign c) = g.sign c
meaning (Link n) = g.link_word n

-- the symbol that is meant, or none where it is bad
abbrev pub Says : g.Symbol → Option Symbol → Type 0
Says s None = s ≡ g.bad
Says s (Some x) = s ≡ meaning x

-- the field that a digit names
abbrev pub FieldBy : ℕ → Option FieldNumber → Type 0
FieldBy b None = (b < 48) ⊎ (56 ≤ b)
FieldBy b (Some n) = b ≡ 48 + n.number
