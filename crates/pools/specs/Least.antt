-- A least element of a list, and the list without it.
use Rattle.std.specs.Prelude.{◌≡◌, ℕ, ◌<◌, List, length, slice_index_or}
use Rattle.std.specs.List.{remove}

-- among the first n elements of xs, none comes before the one at this place
abbrev pub LeastAt : {X : Type 0} → (X → X → Type 0) → List X → ℕ → ℕ → Type 0
LeastAt {X} before xs n at = (at < n) × ((k : ℕ) (d : X) → k < n → before (slice_index_or xs k d) (slice_index_or xs at d) → ⊥)

-- x stands at this place of xs, and ys is xs without that place
pub record OutAt {X : Type 0} (xs : List X) (at : ℕ) (x : X) (ys : List X) : Type 0 where
  pub within : at < length xs
  pub stood : x ≡ slice_index_or xs at x
  pub rest_is : ys ≡ remove xs at

-- x stands at some place of xs, none of xs comes before it, and ys is xs without that place
pub record LeastOut {X : Type 0} (before : X → X → Type 0) (xs : List X) (x : X) (ys : List X) : Type 0 where
  pub at : ℕ
  pub out : OutAt xs at x ys
  pub least : (k : ℕ) (d : X) → k < length xs → before (slice_index_or xs k d) x → ⊥
