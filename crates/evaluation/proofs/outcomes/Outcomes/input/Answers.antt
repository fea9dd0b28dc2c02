use Rattle.std.proofs.Common.{◌≡◌, rules, set, sym, ◌∙◌, length}
use Rattle.std.proofs.lemmas.List.{length_push}
use Rattle.std.proofs.lemmas.Option.{MatchOption-at_some}
use Rattle.std.proofs.lemmas.Iterator.Adapters.{YieldsList-from_rev_slice}
use Rattle.std.proofs.lemmas.Iterator.Consumers.{YieldsList-turn, YieldsList-end}
use Rattle.flows.specs.Flows.{flow_parts}
use Rattle.evaluation_laws.specs.Evaluations.{outputs}
use Rattle.evaluation.specs.Flows.{flow_plan, valuation_of}
use Rattle.evaluation.proofs.FieldByField.{fields_pass, fields_set, fields_all, met_named}
use Rattle.evaluation.proofs.outcomes.Outcomes.input.Goals as goal

pub unwrap-to-requires : goal.unwrap-to-requires
unwrap-to-requires c =
    let f = c.args.self.now.flow.now in
    let met = YieldsList-turn (YieldsList-from_rev_slice (flow_parts f).connectors cc) c.loop-connector.yielded _ c.loop-connector.yielded_by _ _ c.in-Some.connector c.in-Some.is c.next.ensures.steps in
    let named = met_named f _ c.in-Some.connector.now met in
    search rules

pub taken-requires : goal.taken-requires
taken-requires c =
    let f = c.args.self.now.flow.now in
    let met = YieldsList-turn (YieldsList-from_rev_slice (flow_parts f).connectors cc) c.loop-connector.yielded _ c.loop-connector.yielded_by _ _ c.in-Some.connector c.in-Some.is c.next.ensures.steps in
    met_named f _ c.in-Some.connector.now met

pub loop-connector-preserved-then-from-activity : goal.loop-connector-preserved-then-from-activity
loop-connector-preserved-then-from-activity c =
    let f = c.args.self.now.flow.now in
    let met = YieldsList-turn (YieldsList-from_rev_slice (flow_parts f).connectors cc) c.loop-connector.yielded _ c.loop-connector.yielded_by _ _ c.in-Some.connector c.in-Some.is c.next.ensures.steps in
    let number = MatchOption-at_some _ (λ x. x.number ≡ c.in-Some.connector.now.target_field) _ c.unwrap-to.ensures c.new.ensures in
    fields_set (flow_parts f).connectors c.args.activity c.args.self.now.case.now (outputs (flow_plan f) (valuation_of c.args.self.now.places.now)) _ _ c.in-Some.connector.now met (length_push c.loop-connector.yielded c.in-Some.connector) c.loop-connector.input c.set.new.self
    (sym c.from.ensures ∙ c.if-from-activity.true)
    (c.set.ensures ∙ (λ j. set c.loop-connector.input.fields (number j) (c.taken.ensures (flow_plan f) j)))
    c.loop-connector.invariant

pub loop-connector-preserved : goal.loop-connector-preserved
loop-connector-preserved c =
    let f = c.args.self.now.flow.now in
    let met = YieldsList-turn (YieldsList-from_rev_slice (flow_parts f).connectors cc) c.loop-connector.yielded _ c.loop-connector.yielded_by _ _ c.in-Some.connector c.in-Some.is c.next.ensures.steps in
    fields_pass (flow_parts f).connectors c.args.activity c.args.self.now.case.now (outputs (flow_plan f) (valuation_of c.args.self.now.places.now)) _ _ c.in-Some.connector.now met (length_push c.loop-connector.yielded c.in-Some.connector) c.loop-connector.input
    (λ e. c.if-from-activity.false (c.from.ensures ∙ e))
    c.loop-connector.invariant

pub returns : goal.returns
returns c =
    let f = c.args.self.now.flow.now in
    let end = YieldsList-end (YieldsList-from_rev_slice (flow_parts f).connectors cc) c.loop-connector.yielded _ c.loop-connector.yielded_by _ _ c.in-None.is c.next.ensures.steps in
    fields_all (flow_parts f) c.args.activity (length c.loop-connector.yielded) c.args.self.now.case.now (outputs (flow_plan f) (valuation_of c.args.self.now.places.now)) c.loop-connector.input end.1 c.loop-connector.invariant
