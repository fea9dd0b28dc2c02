-- Marks on the numbers below a list's length.
use Rattle.std.specs.Prelude.{ℕ, Bool, false, not, List, count_by, slice_index_or}

abbrev pub marked : List Bool → ℕ → Bool
marked marks k = slice_index_or marks k false

-- how many have no mark
abbrev pub unmarked : List Bool → ℕ
unmarked marks = count_by not marks
