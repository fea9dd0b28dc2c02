-- Marks on the activities that are ranked.
use Rattle.std.specs.Prelude.{◌≡◌, ℕ, ◌<◌, Bool, true, false, List, length, Some, None, Decides, Option}
use Rattle.parts.specs.declared.Link.{Link}
use Rattle.path_laws.specs.Marks.{marked}
use Rattle.path_laws.specs.Paths.{link_at}
use Rattle.path_laws.specs.Ranks.{Listed, Least}

-- a has no mark, and the sources of all links into it have one
abbrev pub Free : List Link → List Bool → ℕ → Type 0
Free links ranked a = (marked ranked a ≡ false) × ((k : ℕ) → k < length links → (link_at links k).target ≡ a → marked ranked (link_at links k).source ≡ true)

-- the least that is free below count, if any is
abbrev pub LeastFree : List Link → List Bool → ℕ → Option ℕ → Type 0
LeastFree links ranked count (Some a) = (a < count) × Least (Free links ranked) a
LeastFree links ranked count None = (a : ℕ) → a < count → Free links ranked a → ⊥

-- what is listed is marked, and nothing else
abbrev pub Shows : List Bool → List ℕ → Type 0
Shows ranked order = (a : ℕ) → Decides (marked ranked a) (Listed order a)
