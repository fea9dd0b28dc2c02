-- The number and the place of each refusal.
use Rattle.std.specs.Prelude.{ℕ}
use Rattle.pools.specs.declared.refusal.PoolRefusal.{PoolRefusal}
use Rattle.pools.specs.declared.refusal.PoolRefusal.TheVariants.{Full, Empty}

abbrev pub cause_of : PoolRefusal → ℕ
cause_of (Full places) = 37
cause_of Empty = 38

abbrev pub place_of : PoolRefusal → ℕ
place_of (Full places) = places
place_of Empty = 0
