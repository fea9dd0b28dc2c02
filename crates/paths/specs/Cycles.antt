-- The least activity on a cycle.
use Rattle.std.specs.Prelude.{ℕ, ◌<◌, List, Some, None, Option}
use Rattle.parts.specs.declared.Link.{Link}
use Rattle.path_laws.specs.Paths.{Reaches}
use Rattle.path_laws.specs.Ranks.{Least}

-- an activity below count, whose number a byte can hold, reaches itself
abbrev pub OnCycle : List Link → ℕ → ℕ → Type 0
OnCycle links count a = (a < count) × (a < 256) × Reaches links a a

-- the least activity on a cycle, or that there is none
abbrev pub LeastOnCycle : List Link → ℕ → Option ℕ → Type 0
LeastOnCycle links count (Some a) = Least (OnCycle links count) a
LeastOnCycle links count None = (a : ℕ) → OnCycle links count a → ⊥
