-- The number and the place of each refusal.
use Rattle.std.specs.Prelude.{ℕ}
use Rattle.partners.specs.declared.refusal.LayerRefusal.{LayerRefusal}
use Rattle.partners.specs.declared.refusal.LayerRefusal.TheVariants.{Tries}

abbrev pub cause_of : LayerRefusal → ℕ
cause_of (Tries n) = 34

abbrev pub place_of : LayerRefusal → ℕ
place_of (Tries n) = n
