-- The plan of a flow, and the valuation that a list of outcomes is.
use Rattle.std.specs.Prelude.{◌≡◌, ℕ, ◌<◌, ◌≤◌, Bool, List, Some, None, Option, slice_index_or}
use Rattle.std.specs.List.{AllByRecursion}
use Rattle.conditions.specs.declared.ground.Incoming.{Incoming}
use Rattle.flows.specs.declared.flow.Flow.{Flow}
use Rattle.flows.specs.Flows.{flow_parts}
use Rattle.plans.specs.Plans.{plan_of}
use Rattle.evaluation_laws.specs.declared.Outcome.{Outcome}
use Rattle.evaluation_laws.specs.declared.Outcome.TheVariants.{Skipped}
use Rattle.evaluation_laws.specs.Plans.{Plan}
use Rattle.evaluation_laws.specs.Evaluations.{Valuation}

abbrev pub flow_plan : Flow → Plan
flow_plan f = plan_of (flow_parts f)

-- the outcome of activity a stands at place a
abbrev pub valuation_of : List Outcome → Valuation
valuation_of outcomes a = slice_index_or outcomes a Skipped

-- each link has the status that s gives it
abbrev pub HaveStatuses : (ℕ → Bool) → List Incoming → Type 0
HaveStatuses s links = AllByRecursion (λ l. l.status ≡ s l.link) links

-- this outcome, and the busy number has not grown; or busy, and it has fallen
abbrev pub RuledOrBusy : Outcome → ℕ → ℕ → Option Outcome → Type 0
RuledOrBusy o before after (Some r) = (r ≡ o) × (after ≤ before)
RuledOrBusy o before after None = after < before
