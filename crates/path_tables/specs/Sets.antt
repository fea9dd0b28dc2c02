-- Sets of activities, and pairs of them.
use Rattle.std.specs.Prelude.{◌≡◌, ℕ, ◌<◌, Bool, true, ◌⊎◌, List, Decides, slice_index_or}
use Rattle.path_laws.specs.Bits.{bit}
use Rattle.path_tables.specs.declared.sets.ActivitySet.{ActivitySet}

-- whether a set has an activity
abbrev pub has : ActivitySet → ℕ → Bool
has set a = bit set.bits a

-- the second set has the activities of the first, and one more where that is below 32
abbrev pub OneMore : ActivitySet → ℕ → ActivitySet → Type 0
OneMore set a more = (b : ℕ) → Decides (has more b) ((has set b ≡ true) ⊎ ((b ≡ a) × (b < 32)))

-- all activities of the first set are in the second
abbrev pub Within : ActivitySet → ActivitySet → Type 0
Within set other = (b : ℕ) → has set b ≡ true → has other b ≡ true

-- the set at a place of a list, or the empty one past its end
abbrev pub row_at : List ActivitySet → ℕ → ActivitySet
row_at rows a = slice_index_or rows a (record { bits = 0 })
