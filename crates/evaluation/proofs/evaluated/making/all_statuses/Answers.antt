use Rattle.std.proofs.Common.{arith}
use Rattle.flows.proofs.Sizes.{few_links}
use Rattle.evaluation_laws.specs.Evaluations.{statuses}
use Rattle.evaluation.specs.Flows.{flow_plan, valuation_of}
use Rattle.evaluation.proofs.Places.{push_succeeds, push_next}
use Rattle.evaluation.proofs.evaluated.making.all_statuses.Goals as goal

pub unwrap-requires : goal.unwrap-requires
unwrap-requires c =
    let o = c.args.outcomes.now in
    push_succeeds (statuses (flow_plan o.flow.now) (valuation_of o.places.now)) 128 c.loop-link.link _ _ _ c.loop-link.invariant (omega (arith, few_links o.flow.now, c.loop-link-test.true, c.link_count-link-end.ensures)) _ c.push.ensures

pub loop-link-preserved : goal.loop-link-preserved
loop-link-preserved c =
    let o = c.args.outcomes.now in
    push_next (statuses (flow_plan o.flow.now) (valuation_of o.places.now)) 128 c.loop-link.link _ _ _ c.loop-link.invariant (omega (arith, few_links o.flow.now, c.loop-link-test.true, c.link_count-link-end.ensures)) _ c.status.ensures c.push.ensures
