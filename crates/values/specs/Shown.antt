-- How values are written.
use Rattle.std.specs.Prelude.{ℕ, List, codes}
use Rattle.std.specs.Fmt.{signed_decimal}
use Rattle.values.specs.declared.amount.Amount.{Amount}
use Rattle.values.specs.declared.field.Field.{Field}
use Rattle.values.specs.declared.field.Field.TheVariants.{Blank, Number}
use Rattle.values.specs.Amounts.{size}

abbrev pub amount_text : Amount → List ℕ
amount_text a = signed_decimal (size a)

abbrev pub field_text : Field → List ℕ
field_text Blank = codes "-"
field_text (Number a) = amount_text a
