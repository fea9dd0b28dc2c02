use Rattle.path_laws.specs.Marks.{unmarked}
use Rattle.path_laws.specs.Spread.{Sound}
use Rattle.paths.proofs.reach.reaches.Given as goal

abbrev pub invariant-loop : goal.invariant-loop
invariant-loop l = Sound l.links l.from l.reached.marks

abbrev pub decreases-loop : goal.decreases-loop
decreases-loop l = unmarked l.reached.marks
