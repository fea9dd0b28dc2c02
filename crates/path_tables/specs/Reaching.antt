-- The table of what each activity reaches, and what making one answers.
use Rattle.std.specs.Prelude.{◌≡◌, ℕ, ◌<◌, ◌≤◌, Bool, true, ◌⊎◌, List, Some, None, Decides, Option}
use Rattle.parts.specs.declared.Link.{Link}
use Rattle.path_laws.specs.Paths.{Linked, Reaches, EndsBelow}
use Rattle.path_laws.specs.Ranks.{Least}
use Rattle.path_tables.specs.declared.closure.Reach.{Reach}
use Rattle.path_tables.specs.declared.pairs.ActivityPairs.{ActivityPairs}
use Rattle.path_tables.specs.Pairs.{paired}

-- whether the table has b among what a reaches
abbrev pub reached : Reach → ℕ → ℕ → Bool
reached reach a b = paired reach.pairs a b

-- the table of all paths, or that there are too many activities, or that a link has an end that is none
abbrev pub ReachAnswers : List Link → ℕ → Option Reach → Type 0
ReachAnswers links count (Some reach) = (count ≤ 32) × EndsBelow links count × ((a b : ℕ) → Decides (reached reach a b) (Reaches links a b))
ReachAnswers links count None = (32 < count) ⊎ (EndsBelow links count → ⊥)

-- the ends of all links, or that one is not below count
abbrev pub EndPairs : List Link → ℕ → Option ActivityPairs → Type 0
EndPairs links count (Some pairs) = EndsBelow links count × ((a b : ℕ) → Decides (paired pairs a b) (Linked links a b))
EndPairs links count None = EndsBelow links count → ⊥

-- an activity below count reaches itself
abbrev pub OnCycle : Reach → ℕ → ℕ → Type 0
OnCycle reach count a = (a < count) × (reached reach a a ≡ true)

-- the least activity on a cycle, or that there is none
abbrev pub LeastOnCycle : Reach → ℕ → Option ℕ → Type 0
LeastOnCycle reach count (Some a) = Least (OnCycle reach count) a
LeastOnCycle reach count None = (a : ℕ) → OnCycle reach count a → ⊥
