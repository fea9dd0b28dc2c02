use Rattle.lists.specs.Lists.{items}
use Rattle.path_laws.proofs.Free.{Kept}
use Rattle.paths.proofs.ranks.rank.Given as goal

abbrev pub invariant-loop : goal.invariant-loop
invariant-loop l = Kept l.count l.links l.ranked.marks (items l.order) l.counter
