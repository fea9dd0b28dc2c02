-- The bits of a number.
use Rattle.std.specs.Prelude.{ℕ, ◌/◌, ◌%◌, ◌^◌, Bool, ◌==◌}

-- whether bit a is set
unfoldable pub bit : ℕ → ℕ → Bool
bit n a = n / 2 ^ a % 2 == 1
