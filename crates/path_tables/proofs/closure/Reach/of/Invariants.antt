use Rattle.path_laws.proofs.Via.{Tabled}
use Rattle.path_tables.specs.Pairs.{paired}
use Rattle.path_tables.proofs.closure.Reach.of.Given as goal

abbrev pub invariant-loop-k : goal.invariant-loop-k
invariant-loop-k l = Tabled l.links l.k (paired l.pairs)
