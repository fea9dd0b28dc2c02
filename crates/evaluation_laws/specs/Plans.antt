-- A plan: what evaluation needs of a flow, and where it may look.
use Rattle.std.specs.Prelude.{◌≡◌, ℕ, ◌<◌, Bool, List, length}
use Rattle.values.specs.declared.container.Container.{Container}
use Rattle.parts.specs.declared.Link.{Link}
use Rattle.path_laws.specs.Paths.{link_at, Reaches}
use Rattle.path_laws.specs.Ranks.{Ranks, rank_order}

pub record Plan : Type 0 where
  -- how many activities there are, and the links between them
  pub count : ℕ
  pub links : List Link
  -- the operation of an activity
  pub operation : ℕ → ℕ
  -- the value of an activity's join over the statuses of links
  pub join : ℕ → (ℕ → Bool) → Bool
  -- the value of a link's transition over the output of its source
  pub transition : ℕ → Container → Bool
  -- an activity's input from the case and the outputs of activities
  pub input : ℕ → Container → (ℕ → Container) → Container

abbrev pub source_of : Plan → ℕ → ℕ
source_of p l = (link_at p.links l).source

-- link l is there and leads into a
abbrev pub Into : Plan → ℕ → ℕ → Type 0
Into p a l = (l < length p.links) × ((link_at p.links l).target ≡ a)

-- a join depends on the activity's own incoming links only, and an input on activities that reach it only
pub record LooksBack (p : Plan) : Type 0 where
  pub join_looks : (a : ℕ) (s t : ℕ → Bool) → ((l : ℕ) → Into p a l → s l ≡ t l) → p.join a s ≡ p.join a t
  pub input_looks : (a : ℕ) (the_case : Container) (o q : ℕ → Container) → ((b : ℕ) → Reaches p.links b a → o b ≡ q b) → p.input a the_case o ≡ p.input a the_case q

-- its activities by rank
abbrev pub order_of : Plan → List ℕ
order_of p = rank_order p.count p.links

-- every activity has a rank
abbrev pub Ranked : Plan → Type 0
Ranked p = Ranks p.count p.links (order_of p)
