-- What a pool holds, and what adding to it and taking from it answer.
use Rattle.std.specs.Prelude.{◌≡◌, ℕ, ◌<◌, List, [], ◌∷◌, ◌++◌, length, take, Ok, Err, Result}
use Rattle.pools.specs.declared.held.Pool.{Pool}
use Rattle.pools.specs.declared.refusal.PoolRefusal.{PoolRefusal}
use Rattle.pools.specs.Least.{LeastOut}
use Rattle.pools.specs.Refusals.{cause_of, place_of}

-- the elements of a pool, in order of arrival
abbrev pub contents : {X : Type 0} → Pool X → List X
contents p = take p.count p.places.now

-- how many places were lent to it
abbrev pub room : {X : Type 0} → Pool X → ℕ
room p = length p.places.now

-- q stands in the places lent to p, so the lender's slice follows q
pub record SamePlaces {X : Type 0} (p q : Pool X) : Type 0 where
  pub loan_is : q.places.ghost_name ≡ p.places.ghost_name
  pub room_is : room q ≡ room p

-- e is the refusal with this number and this place, and the pool is exactly as it was
pub record Refused {X : Type 0} (cause place : ℕ) (p : Pool X) (e : PoolRefusal) (q : Pool X) : Type 0 where
  pub cause_is : cause_of e ≡ cause
  pub place_is : place_of e ≡ place
  pub pool_is : q ≡ p

-- a place was free, and x is now at the end
pub record Added {X : Type 0} (p : Pool X) (x : X) (q : Pool X) : Type 0 where
  pub free : length (contents p) < room p
  pub contents_is : contents q ≡ contents p ++ x ∷ []
  pub places_are : SamePlaces p q

-- accepted exactly where a place is free, refused exactly where all are taken
abbrev pub AddAnswers : {X : Type 0} → Pool X → X → Pool X → Result (Unit {0}) PoolRefusal → Type 0
AddAnswers p x q (Ok u) = Added p x q
AddAnswers p x q (Err e) = (length (contents p) ≡ room p) × Refused 37 (room p) p e q

-- x was a least element, and the others are left in their order
pub record Taken {X : Type 0} (before : X → X → Type 0) (p : Pool X) (x : X) (q : Pool X) : Type 0 where
  pub least_out : LeastOut before (contents p) x (contents q)
  pub places_are : SamePlaces p q

-- accepted exactly where there is an element, refused exactly where there is none
abbrev pub TakeAnswers : {X : Type 0} → (X → X → Type 0) → Pool X → Pool X → Result X PoolRefusal → Type 0
TakeAnswers before p q (Ok x) = Taken before p x q
TakeAnswers before p q (Err e) = (contents p ≡ []) × Refused 38 0 p e q
