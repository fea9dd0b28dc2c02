use Rattle.std.proofs.Common.{◌∙◌, length, arith}
use Rattle.std.proofs.lemmas.Int.{ints}
use Rattle.flows.proofs.Sizes.{few_activities}
use Rattle.flows.specs.Flows.{flow_parts}
use Rattle.evaluation.specs.Flows.{flow_plan, valuation_of}
use Rattle.evaluation.proofs.Treating.{tells, charge_taken}
use Rattle.evaluation.proofs.evaluated.Evaluated.new.Goals as goal

pub returns : goal.returns
returns c =
    let o = c.args.outcomes.now in
    let f = o.flow.now in
    let charge = charge_taken (length (flow_parts f).activities) c.activity_count.result o.places.now c.activity_count.ensures (omega (arith, few_activities f, o.all_places)) in
    tells (flow_plan f) o.case.now (valuation_of o.places.now) _ c.all_activities.ensures c.all_statuses.ensures (◌∙◌ {b = c.sum.result} (omega (arith, ints)) (c.sum.ensures ∙ charge))
