use Rattle.std.proofs.Common.{◌≡◌, ◌++◌}
use Rattle.std.specs.List.{flat_map}
use Rattle.std.specs.Slice.Iter.{chunks_exact_rest, chunks_exact_size}
use Rattle.lists.specs.Lists.{items}
use Rattle.tables.proofs.records.read_records.Given as goal

-- the bytes are the records so far and what is left
abbrev pub invariant-loop-piece : goal.invariant-loop-piece
invariant-loop-piece g l =
    (goal.iterator-loop-piece g).can_next l.piece-iterator
    × (goal.iterator-loop-piece g).is_finite l.piece-iterator
    × (chunks_exact_size l.piece-iterator ≡ g.R.Record.WIDTH)
    × (l.bytes ≡ flat_map g.R.Record.encoding (items l.records) ++ chunks_exact_rest l.piece-iterator)
