-- Takes from a pool, one after another, with no add between.
use Rattle.std.specs.Prelude.{◌≡◌, ℕ, ◌<◌, List, [], ◌∷◌, ◌++◌, length, Ok, Err, slice_index_or}
use Rattle.std.specs.List.Sorted.{IsPermutation}
use Rattle.pools.specs.declared.held.Pool.{Pool}
use Rattle.pools.specs.declared.refusal.PoolRefusal.{PoolRefusal}
use Rattle.pools.specs.Contents.{contents, TakeAnswers}

-- takes led from p to q, refused ones included, and gave the elements of the list, first to last
pub data Takes {X : Type 0} (before : X → X → Type 0) : Pool X → List X → Pool X → Type 0 where
  ended : (p : Pool X) → Takes before p [] p
  gave : (p m q : Pool X) (x : X) (xs : List X) → TakeAnswers before p m (Ok x) → Takes before m xs q → Takes before p (x ∷ xs) q
  refused : (p m q : Pool X) (e : PoolRefusal) (xs : List X) → TakeAnswers before p m (Err e) → Takes before m xs q → Takes before p xs q

-- no later element comes before an earlier one
abbrev pub Rising : {X : Type 0} → (X → X → Type 0) → List X → Type 0
Rising {X} before xs = (i j : ℕ) (d : X) → i < j → j < length xs → before (slice_index_or xs j d) (slice_index_or xs i d) → ⊥

-- elements taken out of a pool, with none added between, come in rising order
abbrev pub TakenComeRising : {X : Type 0} → (X → X → Type 0) → Type 0
TakenComeRising {X} before = (p q : Pool X) (xs : List X) → Takes before p xs q → Rising before xs

-- what such takes give, followed by what they leave, has exactly the elements that the pool had
abbrev pub TakesLoseNothing : {X : Type 0} → (X → X → Type 0) → Type 0
TakesLoseNothing {X} before = (p q : Pool X) (xs : List X) → Takes before p xs q → IsPermutation (contents p) (xs ++ contents q)

-- any two elements that a take could give from one pool are the same
abbrev pub OneLeast : {X : Type 0} → (X → X → Type 0) → Type 0
OneLeast {X} before = (p q r : Pool X) (x y : X) → TakeAnswers before p q (Ok x) → TakeAnswers before p r (Ok y) → x ≡ y
