-- Pairs of activities.
use Rattle.std.specs.Prelude.{◌≡◌, ℕ, ◌<◌, Bool, true, ◌⊎◌, Decides}
use Rattle.path_tables.specs.declared.pairs.ActivityPairs.{ActivityPairs}
use Rattle.path_tables.specs.Sets.{has, row_at}

-- whether a is paired with b
abbrev pub paired : ActivityPairs → ℕ → ℕ → Bool
paired pairs a b = has (row_at pairs.rows a) b

-- the second has the pairs of the first, and one more where its numbers are below 32
abbrev pub OnePairMore : ActivityPairs → ℕ → ℕ → ActivityPairs → Type 0
OnePairMore pairs a b more = (x y : ℕ) → Decides (paired more x y) ((paired pairs x y ≡ true) ⊎ ((x ≡ a) × (y ≡ b) × (x < 32) × (y < 32)))
