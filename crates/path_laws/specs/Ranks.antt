-- The order of the activities by rank: the least whose link sources are all ranked comes next.
use Rattle.std.specs.Prelude.{◌≡◌, ℕ, zero, suc, ◌<◌, Bool, true, false, cond, not, ◌&&◌, ◌||◌, List, [], ◌∷◌, ◌++◌, length, take, Some, None, Option, ◌==◌, ◌≢◌, slice_index}
use Rattle.parts.specs.declared.Link.{Link}
use Rattle.path_laws.specs.Paths.{link_at, Reaches, EndsBelow, NoCycle}

abbrev pub Listed : List ℕ → ℕ → Type 0
Listed order a = (k : ℕ) × (k < length order) × (slice_index order k ≡ a)

-- the list has the activities 0 to count − 1, each once
pub record EachOnce (count : ℕ) (order : List ℕ) : Type 0 where
  pub long : length order ≡ count
  pub below : (i : ℕ) → i < count → slice_index order i < count
  pub all : (a : ℕ) → a < count → Listed order a
  pub once : (i j : ℕ) → i < j → j < count → slice_index order i ≢ slice_index order j

-- an activity that is not listed, while the sources of all links into it are
pub record Ready (count : ℕ) (links : List Link) (order : List ℕ) (a : ℕ) : Type 0 where
  pub activity : a < count
  pub unranked : Listed order a → ⊥
  pub sources : (k : ℕ) → k < length links → (link_at links k).target ≡ a → Listed order (link_at links k).source

abbrev pub Least : (ℕ → Type 0) → ℕ → Type 0
Least P a = P a × ((b : ℕ) → b < a → P b → ⊥)

-- all activities, each the least that is ready after those before it
pub record Ranks (count : ℕ) (links : List Link) (order : List ℕ) : Type 0 where
  pub each_once : EachOnce count order
  pub least : (i : ℕ) → i < count → Least (Ready count links (take i order)) (slice_index order i)

-- there is one order at most
abbrev pub OneOrder : ℕ → List Link → Type 0
OneOrder count links = (xs ys : List ℕ) → Ranks count links xs → Ranks count links ys → xs ≡ ys

-- where a reaches b, it comes before b in every order, so an activity on a cycle is in none
abbrev pub PathsLeadForward : ℕ → List Link → Type 0
PathsLeadForward count links = (order : List ℕ) → Ranks count links order → (a b j : ℕ) → j < count → slice_index order j ≡ b → Reaches links a b → (i : ℕ) × (i < j) × (slice_index order i ≡ a)

-- the order, worked out
abbrev pub lists : List ℕ → ℕ → Bool
lists [] a = false
lists (x ∷ xs) a = x == a || lists xs a

abbrev pub lists_sources : List ℕ → ℕ → List Link → Bool
lists_sources order a [] = true
lists_sources order a (l ∷ ls) = (not (l.target == a) || lists order l.source) && lists_sources order a ls

abbrev pub is_ready : List Link → List ℕ → ℕ → Bool
is_ready links order a = not (lists order a) && lists_sources order a links

abbrev pub first_of : Option ℕ → Option ℕ → Option ℕ
first_of (Some a) other = Some a
first_of None other = other

-- the least number below count that passes a test
abbrev pub least_below : (ℕ → Bool) → ℕ → Option ℕ
least_below test zero = None
least_below test (suc n) = first_of (least_below test n) (cond (test n) (Some n) None)

abbrev pub with_next : List ℕ → Option ℕ → List ℕ
with_next order None = order
with_next order (Some a) = order ++ a ∷ []

abbrev pub one_more : ℕ → List Link → List ℕ → List ℕ
one_more count links order = with_next order (least_below (is_ready links order) count)

-- the first activities by rank: so many, or as many as there are
abbrev pub first_ranked : ℕ → List Link → ℕ → List ℕ
first_ranked count links zero = []
first_ranked count links (suc i) = one_more count links (first_ranked count links i)

abbrev pub rank_order : ℕ → List Link → List ℕ
rank_order count links = first_ranked count links count

-- every order is the one worked out, which is an order where it has all activities
pub record WorkedOut (count : ℕ) (links : List Link) : Type 0 where
  pub only : (order : List ℕ) → Ranks count links order → order ≡ rank_order count links
  pub whole : length (rank_order count links) ≡ count → Ranks count links (rank_order count links)

-- where the links stay among the activities and make no cycle, there is an order
abbrev pub OrderExists : ℕ → List Link → Type 0
OrderExists count links = EndsBelow links count → NoCycle links count → (order : List ℕ) × Ranks count links order
