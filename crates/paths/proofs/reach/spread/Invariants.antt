use Rattle.path_laws.proofs.Spread.{Turn}
use Rattle.paths.proofs.reach.spread.Given as goal

abbrev pub invariant-loop-link : goal.invariant-loop-link
invariant-loop-link l = Turn l.links l.from l.initial.reached.marks l.reached.marks l.more l.link-index
