-- The number and the place of each refusal.
use Rattle.std.specs.Prelude.{ℕ}
use Rattle.nested.specs.declared.refusal.NestedRefusal.{NestedRefusal}
use Rattle.nested.specs.declared.refusal.NestedRefusal.TheVariants.{NoResult}

abbrev pub cause_of : NestedRefusal → ℕ
cause_of (NoResult n) = 35

abbrev pub place_of : NestedRefusal → ℕ
place_of (NoResult n) = n
