use Rattle.std.proofs.Common.{◌≡◌, ℕ, ◌*◌, ◌<◌, drop, slice_index_or}
use Rattle.values.specs.declared.field.Field.TheVariants.{Blank}
use Rattle.values.specs.Layout.{field_bytes}
use Rattle.values.specs.Cases.{slot}
use Rattle.values.proofs.case.read_case.Given as goal

-- the fields read so far are those that stand in their slots, and the rest begins with the next slot
abbrev pub invariant-loop-k : goal.invariant-loop-k
invariant-loop-k l =
    (l.rest ≡ drop (9 * l.k) l.bytes)
    × ((j : ℕ) → j < l.k → slot 9 l.bytes j ≡ field_bytes (slice_index_or l.field-items j Blank))
