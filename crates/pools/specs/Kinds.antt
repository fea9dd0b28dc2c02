-- The orders of the two kinds, in their numbers.
use Rattle.std.specs.Prelude.{◌≡◌, ◌<◌, ◌⊎◌}
use Rattle.pools.specs.declared.kinds.ActivityNumber.{ActivityNumber}
use Rattle.pools.specs.declared.kinds.WorkItem.{WorkItem}

-- by size
abbrev pub number_before : ActivityNumber → ActivityNumber → Type 0
number_before x y = x.0 < y.0

-- by rising priority, then by activity number
abbrev pub item_before : WorkItem → WorkItem → Type 0
item_before x y = (x.priority < y.priority) ⊎ ((x.priority ≡ y.priority) × (x.activity < y.activity))
