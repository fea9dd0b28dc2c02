-- The number and the place of each refusal.
use Rattle.std.specs.Prelude.{ℕ}
use Rattle.layout.specs.declared.refusal.LayoutRefusal.{LayoutRefusal}
use Rattle.layout.specs.declared.refusal.LayoutRefusal.TheVariants.{Cut, Count, TextLength, Extra}

abbrev pub cause_of : LayoutRefusal → ℕ
cause_of (Cut at) = 1
cause_of (Count at) = 2
cause_of (TextLength at) = 3
cause_of (Extra at) = 4

abbrev pub place_of : LayoutRefusal → ℕ
place_of (Cut at) = at
place_of (Count at) = at
place_of (TextLength at) = at
place_of (Extra at) = at
