use Rattle.path_laws.specs.Tables.{Joins}
use Rattle.path_tables.specs.Pairs.{paired}
use Rattle.path_tables.proofs.pairs.ActivityPairs.join_through.Given as goal

abbrev pub invariant-loop-a : goal.invariant-loop-a
invariant-loop-a l = Joins l.a l.k (paired l.initial.self) (paired l.self)
