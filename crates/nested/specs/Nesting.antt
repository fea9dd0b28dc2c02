-- What a nested flow answers, and what comes out where one is made.
use Rattle.std.specs.Prelude.{◌≡◌, ℕ, ◌<◌, ◌≤◌, length, Ok, Err, Result}
use Rattle.std.proofs.Common.{lit≤}
use mir.Syntax.{Dict}
use Rattle.partners.specs.declared.fault.Fault.{Fault}
use Rattle.partners.specs.declared.partner.Partner.{Ghosts as Meaning}
use Rattle.partners.specs.declared.refusal.Refused.{Refused}
use Rattle.partners.specs.Answers.{Answer, Answers, gives, faults}
use Rattle.partners.specs.Layers.{LayerMeaning}
use Rattle.flows.specs.declared.flow.Flow.{Flow}
use Rattle.flows.specs.Flows.{flow_parts}
use Rattle.evaluation_laws.specs.declared.Outcome.{Outcome}
use Rattle.evaluation_laws.specs.declared.Outcome.TheVariants.{Skipped, Completed, Faulted}
use Rattle.evaluation_laws.specs.Evaluations.{evaluated}
use Rattle.evaluation.specs.Flows.{flow_plan}
use Rattle.nested.specs.declared.refusal.NestedRefusal.{NestedRefusal}
use Rattle.nested.specs.declared.refusal.NestedRefusal.TheVariants.{NoResult}

-- the fault where the result was skipped: code 2
abbrev pub skipped_fault : Fault
skipped_fault = record { code = 2; some = lit≤ tt }

-- a completed result hands up its output, a faulted one its fault
abbrev pub handed_up : Outcome → Answer
handed_up Skipped = faults skipped_fault
handed_up (Completed c) = gives c
handed_up (Faulted f) = faults f

-- to any operation: the evaluation of the flow with the input as the case, under the answers below
abbrev pub nested_answers : Flow → ℕ → Answers → Answers
nested_answers f result below operation input = handed_up (evaluated (flow_plan f) input below result)

-- a nested flow answers by its result, and its busy number is that below
pub record NestedOver (f : Flow) (result : ℕ) (below : Answers) (below_busy : ℕ) (answers : Answers) (busy : ℕ) : Type 0 where
  pub within : result < length (flow_parts f).activities
  pub answers_are : answers ≡ nested_answers f result below
  pub busy_is : busy ≡ below_busy

-- the result is refused, and the partner comes back as it was
pub record ResultRefused {P : Type 0} (f : Flow) (result : ℕ) (below : P) (refused : Refused NestedRefusal P) : Type 0 where
  pub no_activity : length (flow_parts f).activities ≤ result
  pub refusal_is : refused.refusal ≡ NoResult result
  pub partner_is : refused.partner ≡ below

-- p is what the partner below means, and m what the nested flow means
abbrev pub NestedMade : {P R : Type 0} → Meaning P → LayerMeaning R → Flow → ℕ → P → Result R (Refused NestedRefusal P) → Type 0
NestedMade p m f result below (Ok r) = (wiring : Dict) → NestedOver f result (p.answers below) (p.busy below) ((m wiring).answers r) ((m wiring).busy r)
NestedMade p m f result below (Err e) = ResultRefused f result below e
