use Rattle.std.proofs.Common.{◌≡◌, map}
use Rattle.std.specs.List.{range_with_len}
use Rattle.lists.specs.Lists.{items}
use Rattle.evaluation.specs.Flows.{flow_plan, valuation_of}
use Rattle.evaluation.specs.Evaluated.{evaluated_activity}
use Rattle.evaluation.proofs.evaluated.making.all_activities.Given as goal

abbrev pub invariant-loop-activity : goal.invariant-loop-activity
invariant-loop-activity l = items l.activities ≡ map (evaluated_activity (flow_plan l.outcomes.flow.now) l.outcomes.case.now (valuation_of l.outcomes.places.now)) (range_with_len 0 l.activity)
