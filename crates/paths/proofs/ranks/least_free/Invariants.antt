use Rattle.std.proofs.Common.{◌≡◌}
use Rattle.pools.specs.Contents.{contents, room}
use Rattle.paths.proofs.Waits.{Waits}
use Rattle.paths.proofs.ranks.least_free.Given as goal

abbrev pub invariant-loop-a : goal.invariant-loop-a
invariant-loop-a l = (room l.free ≡ 32) × Waits l.links l.ranked.marks (contents l.free) l.a
