use Rattle.std.proofs.Common.{refl, ◌∙◌, arith}
use Rattle.flows.specs.Verdicts.{accepted, refused}
use Rattle.flows.specs.Flows.{flow_parts}
use Rattle.host.proofs.Places.{place_small}
use Rattle.host.proofs.jirvelko_check_definition.Goals as goal

pub overflow_cast-result : goal.overflow_cast-result
overflow_cast-result c = omega (arith, c.place.ensures, place_small c.args.bytes.now c.in-Err.refusal c.in-Err.ensures.verdict.0)

pub returns-in-Ok : goal.returns-in-Ok
returns-in-Ok c = record { verdict = accepted (flow_parts c.read.new.self); judged = c.in-Ok.ensures.verdict; cause_is = refl; place_is = refl }

pub returns-in-Err : goal.returns-in-Err
returns-in-Err c = record { verdict = refused c.in-Err.refusal; judged = c.in-Err.ensures.verdict.0; cause_is = c.from.ensures ∙ c.cause.ensures; place_is = c.place.ensures }
