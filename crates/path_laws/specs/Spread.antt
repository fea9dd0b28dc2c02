-- Marks that spread from an activity along the links.
use Rattle.std.specs.Prelude.{◌≡◌, ℕ, ◌<◌, Bool, true, ◌⊎◌, List}
use Rattle.parts.specs.declared.Link.{Link}
use Rattle.path_laws.specs.Marks.{marked}
use Rattle.path_laws.specs.Paths.{link_at, Reaches}

-- only what is reached is marked
abbrev pub Sound : List Link → ℕ → List Bool → Type 0
Sound links from reached = (a : ℕ) → marked reached a ≡ true → Reaches links from a

-- a is the start, or is marked
abbrev pub StartOrMarked : List Bool → ℕ → ℕ → Type 0
StartOrMarked reached from a = (a ≡ from) ⊎ (marked reached a ≡ true)

-- the first i links add no mark
abbrev pub Closed : List Link → ℕ → List Bool → ℕ → Type 0
Closed links from reached i = (k : ℕ) → k < i → StartOrMarked reached from (link_at links k).source → marked reached (link_at links k).target ≡ true
