use Rattle.std.proofs.Common.{◌≤◌, ◌<◌, sym, ◌∙◌, arith}
use Rattle.std.proofs.lemmas.List.{get_or_default, get_or-take, length-take-le}
use Rattle.flows.proofs.Sizes.{few_activities}
use Rattle.evaluation_laws.specs.declared.Outcome.TheVariants.{Skipped}
use Rattle.evaluation.specs.Flows.{flow_plan, valuation_of}
use Rattle.evaluation.specs.Evaluated.{evaluated_activity}
use Rattle.evaluation.proofs.Places.{push_succeeds, push_next}
use Rattle.evaluation.proofs.evaluated.making.all_activities.Goals as goal

pub unwrap-requires : goal.unwrap-requires
unwrap-requires c =
    let o = c.args.outcomes.now in
    let n = c.activity_count.result in
    let few : n ≤ 32 = omega (arith, few_activities o.flow.now, c.activity_count.ensures) in
    push_succeeds (evaluated_activity (flow_plan o.flow.now) o.case.now (valuation_of o.places.now)) 32 c.loop-activity.activity _ _ _ c.loop-activity.invariant (omega (arith, c.loop-activity-test.true, length-take-le n o.places.now (omega (arith, few, o.all_places)))) _ c.push.ensures

pub loop-activity-preserved : goal.loop-activity-preserved
loop-activity-preserved c =
    let o = c.args.outcomes.now in
    let a = c.loop-activity.activity in
    let n = c.activity_count.result in
    let few : n ≤ 32 = omega (arith, few_activities o.flow.now, c.activity_count.ensures) in
    let here : a < n = omega (arith, c.loop-activity-test.true, length-take-le n o.places.now (omega (arith, few, o.all_places))) in
    let r = c.index-treated-activity.result in
    let is = c.index-treated-activity.is ∙ get_or-take n o.places.now a r here ∙ sym (get_or_default o.places.now a Skipped r (omega (arith, here, few, o.all_places))) in
    push_next (evaluated_activity (flow_plan o.flow.now) o.case.now (valuation_of o.places.now)) 32 a _ _ _ c.loop-activity.invariant (omega (arith, here, few)) _
    (λ j. record { outcome = is j; input = c.given.ensures j }) c.push.ensures
