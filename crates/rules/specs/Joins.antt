-- The links into an activity, with a status each.
use Rattle.std.specs.Prelude.{◌≡◌, ℕ, ◌<◌, Bool, List, length, Some, None, Option}
use Rattle.std.specs.List.{AllByRecursion}
use Rattle.lists.specs.declared.list.BoundedList.{BoundedList}
use Rattle.lists.specs.Lists.{items}
use Rattle.conditions.specs.declared.ground.Incoming.{Incoming}
use Rattle.conditions.specs.Values.{links_of}
use Rattle.parts.specs.declared.Link.{Link}
use Rattle.rules.specs.Rules.{into}

-- the list holds the links into an activity, in their order; or there are more than 128 links
abbrev pub LinksListed : List Link → ℕ → Option (BoundedList Incoming 128) → Type 0
LinksListed links a (Some l) = links_of (items l) ≡ into 0 links a
LinksListed links a None = 128 < length links

-- each link that the list holds has a status that its number is given
abbrev pub StatusesBy : (ℕ → Bool → Type 0) → Option (BoundedList Incoming 128) → Type 0
StatusesBy Given (Some l) = AllByRecursion (λ i. Given i.link i.status) (items l)
StatusesBy Given None = Unit {0}
