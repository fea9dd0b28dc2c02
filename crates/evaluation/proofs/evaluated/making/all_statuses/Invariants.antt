use Rattle.std.proofs.Common.{◌≡◌, map}
use Rattle.std.specs.List.{range_with_len}
use Rattle.lists.specs.Lists.{items}
use Rattle.evaluation_laws.specs.Evaluations.{statuses}
use Rattle.evaluation.specs.Flows.{flow_plan, valuation_of}
use Rattle.evaluation.proofs.evaluated.making.all_statuses.Given as goal

abbrev pub invariant-loop-link : goal.invariant-loop-link
invariant-loop-link l = items l.statuses ≡ map (statuses (flow_plan l.outcomes.flow.now) (valuation_of l.outcomes.places.now)) (range_with_len 0 l.link)
