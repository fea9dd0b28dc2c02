use Rattle.std.proofs.Common.{length}
use Rattle.flows.specs.Flows.{flow_parts}
use Rattle.evaluation_laws.specs.Evaluations.{outputs}
use Rattle.evaluation.specs.Flows.{flow_plan, valuation_of}
use Rattle.evaluation.proofs.FieldByField.{Fields}
use Rattle.evaluation.proofs.outcomes.Outcomes.input.Given as goal

abbrev pub invariant-loop-connector : goal.invariant-loop-connector
invariant-loop-connector l = Fields (flow_parts l.self.flow.now).connectors (length l.yielded) l.activity l.self.case.now (outputs (flow_plan l.self.flow.now) (valuation_of l.self.places.now)) l.input
