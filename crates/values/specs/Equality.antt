-- When two values are equal, computed.
use Rattle.std.specs.Prelude.{Bool, true, false}
use Rattle.std.specs.Ordering.{on, int_eq}
use Rattle.std.specs.Cmp.Lexicographic.{pointwise}
use Rattle.values.specs.declared.amount.Amount.{Amount}
use Rattle.values.specs.declared.field.Field.{Field}
use Rattle.values.specs.declared.field.Field.TheVariants.{Blank, Number}
use Rattle.values.specs.declared.container.Container.{Container}
use Rattle.values.specs.Amounts.{size}

abbrev pub amount_eq : Amount → Amount → Bool
amount_eq = on size int_eq

abbrev pub field_eq : Field → Field → Bool
field_eq Blank Blank = true
field_eq Blank (Number b) = false
field_eq (Number a) Blank = false
field_eq (Number a) (Number b) = amount_eq a b

abbrev pub container_eq : Container → Container → Bool
container_eq = on (λ (c : Container). c.fields) (pointwise field_eq)
