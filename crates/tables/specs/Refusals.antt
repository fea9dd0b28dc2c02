-- The number and the place of each refusal.
use Rattle.std.specs.Prelude.{ℕ}
use Rattle.tables.specs.declared.refusal.TableRefusal.{TableRefusal}
use Rattle.tables.specs.declared.refusal.TableRefusal.TheVariants.{Size, BadRow}

abbrev pub cause_of : TableRefusal → ℕ
cause_of Size = 31
cause_of (BadRow k) = 33

abbrev pub place_of : TableRefusal → ℕ
place_of Size = 0
place_of (BadRow k) = k
