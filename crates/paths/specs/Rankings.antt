-- What a ranking holds, and what ranking answers.
use Rattle.std.specs.Prelude.{◌≡◌, ℕ, ◌<◌, ◌≤◌, ◌⊎◌, List, length, Some, None, Option, slice_index}
use Rattle.lists.specs.Lists.{items}
use Rattle.parts.specs.declared.Link.{Link}
use Rattle.paths.specs.declared.order.Ranking.{Ranking}
use Rattle.path_laws.specs.Ranks.{Ranks}

-- the activities by rank
abbrev pub order_of : Ranking → List ℕ
order_of r = items r.order

-- what stands at a place of a list, or that the place is past its end
abbrev pub EntryAt : List ℕ → ℕ → Option ℕ → Type 0
EntryAt xs i (Some a) = (i < length xs) × (a ≡ slice_index xs i)
EntryAt xs i None = length xs ≤ i

-- the order, or that there are too many activities, or that there is none
abbrev pub RankAnswers : ℕ → List Link → Option Ranking → Type 0
RankAnswers count links (Some r) = Ranks count links (order_of r)
RankAnswers count links None = (32 < count) ⊎ ((order : List ℕ) → Ranks count links order → ⊥)
