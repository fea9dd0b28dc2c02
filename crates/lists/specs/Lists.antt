-- What a bounded list holds, and what its calls answer.
use Rattle.std.specs.Prelude.{◌≡◌, ℕ, ◌<◌, ◌≤◌, List, [], ◌∷◌, ◌++◌, length, take, Some, None, Option, Ok, Err, Result}
use Rattle.lists.specs.declared.list.BoundedList.{BoundedList}
use Rattle.lists.specs.declared.list.Full.{Full}

-- the elements, first to last
abbrev pub items : {X : Type 0} {N : ℕ} → BoundedList X N → List X
items l = take l.count l.places

-- there was a place and x is at the end, or there was none and the list is as it was
abbrev pub PushAnswers : {X : Type 0} → ℕ → List X → X → List X → Result (Unit {0}) Full → Type 0
PushAnswers n xs x ys (Ok u) = (length xs < n) × (ys ≡ xs ++ x ∷ [])
PushAnswers n xs x ys (Err e) = (length xs ≡ n) × (ys ≡ xs)

-- the list of these elements, or there are too many
abbrev pub CopyAnswers : {X : Type 0} (N : ℕ) → List X → Option (BoundedList X N) → Type 0
CopyAnswers N xs (Some l) = items l ≡ xs
CopyAnswers N xs None = N < length xs
