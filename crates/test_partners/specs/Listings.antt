-- What the listing partner answers, and what it lists.
use Rattle.std.specs.Prelude.{◌≡◌, ℕ, ◌+◌, ◌-◌, ◌^◌, ◌<◌, min, [], ◌∷◌, ◌++◌, take, Some, None, Option, slice_index_or}
use Rattle.lists.specs.Lists.{items}
use Rattle.values.specs.declared.container.Container.{Container}
use Rattle.partners.specs.declared.fault.Fault.{Fault}
use Rattle.partners.specs.declared.partner.Partner.{Ghosts as Meaning}
use Rattle.partners.specs.Answers.{Answers, gives, faults}
use Rattle.test_partners.specs.declared.listing.Call.{Call}
use Rattle.test_partners.specs.declared.listing.Listing.{Listing}

-- the fault, or the input as the output
abbrev pub given_back : Option Fault → Answers
given_back (Some f) operation input = faults f
given_back None operation input = gives input

pub record ListingMade (meaning : Meaning Listing) (busy : ℕ) (fault : Option Fault) (r : Listing) : Type 0 where
  pub answers_are : meaning.answers r ≡ given_back fault
  pub busy_is : meaning.busy r ≡ busy
  pub no_calls : r.count ≡ 0

-- a call is listed at the end while there are places, and the count rises, up to the greatest number
pub record CallListed (before after : Listing) (operation : ℕ) (input : Container) : Type 0 where
  pub calls_are : items after.calls ≡ take 16 (items before.calls ++ record { operation = operation; input = input } ∷ [])
  pub count_is : after.count ≡ min (before.count + 1) (2 ^ 64 - 1)

-- and nothing else changes
pub record OnlyListed (before after : Listing) (operation : ℕ) (input : Container) : Type 0 where
  pub listed : CallListed before after operation input
  pub busy_is : after.busy ≡ before.busy
  pub fault_is : after.fault ≡ before.fault

-- call k stands at place k
abbrev pub CallAt : Listing → ℕ → Option Call → Type 0
CallAt l k (Some call) = (k < l.count) × (k < 16) × (call ≡ slice_index_or (items l.calls) k call)
CallAt l k None = k < min l.count 16 → ⊥
