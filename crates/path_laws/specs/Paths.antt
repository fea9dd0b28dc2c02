-- Paths of links, and cycles.
use Rattle.std.specs.Prelude.{◌≡◌, ℕ, ◌<◌, List, length, slice_index_or}
use Rattle.parts.specs.declared.Link.{Link}

abbrev pub link_at : List Link → ℕ → Link
link_at links k = slice_index_or links k (record { source = 0; target = 0 })

-- link k goes from a to b
abbrev pub Leads : List Link → ℕ → ℕ → ℕ → Type 0
Leads links k a b = ((link_at links k).source ≡ a) × ((link_at links k).target ≡ b)

-- a link goes from a to b
pub record Linked (links : List Link) (a b : ℕ) : Type 0 where
  pub number : ℕ
  pub within : number < length links
  pub source_is : (link_at links number).source ≡ a
  pub target_is : (link_at links number).target ≡ b

-- one or more links lead from a to b
pub data Reaches (links : List Link) (a : ℕ) : ℕ → Type 0 where
  by_link : {b : ℕ} → Linked links a b → Reaches links a b
  and_on : {b c : ℕ} → Reaches links a b → Linked links b c → Reaches links a c

-- both ends of each link are below count
abbrev pub EndsBelow : List Link → ℕ → Type 0
EndsBelow links count = (k : ℕ) → k < length links → ((link_at links k).source < count) × ((link_at links k).target < count)

-- none of the activities below count reaches itself
abbrev pub NoCycle : List Link → ℕ → Type 0
NoCycle links count = (a : ℕ) → a < count → Reaches links a a → ⊥
