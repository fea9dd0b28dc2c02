-- What an evaluation holds, and that it is the one of a plan on a case under answers.
use Rattle.std.specs.Prelude.{◌≡◌, ℕ, ◌<◌, ◌≤◌, Bool, false, List, map, length, Some, None, Option, slice_index_or}
use Rattle.values.specs.declared.container.Container.{Container}
use Rattle.partners.specs.Answers.{Answers}
use Rattle.evaluation_laws.specs.declared.Outcome.{Outcome}
use Rattle.evaluation_laws.specs.declared.Outcome.TheVariants.{Skipped, Completed, Faulted}
use Rattle.evaluation_laws.specs.Plans.{Plan}
use Rattle.evaluation_laws.specs.Evaluations.{Valuation, no_output, input_of, statuses, charge_of, evaluated}
use Rattle.lists.specs.Lists.{items}
use Rattle.evaluation.specs.declared.evaluated.EvaluatedActivity.{EvaluatedActivity}
use Rattle.evaluation.specs.declared.evaluated.Evaluated.{Evaluated}

abbrev pub outcomes_of : Evaluated → List Outcome
outcomes_of e = map (λ (a : EvaluatedActivity). a.outcome) (items e.activities)

abbrev pub inputs_of : Evaluated → List Container
inputs_of e = map (λ (a : EvaluatedActivity). a.input) (items e.activities)

abbrev pub statuses_of : Evaluated → List Bool
statuses_of e = items e.statuses

-- an input is given to an activity unless it is skipped
abbrev pub input_by : Outcome → Container → Container
input_by Skipped input = no_output
input_by (Completed c) input = input
input_by (Faulted f) input = input

abbrev pub given_input : Plan → Container → Valuation → ℕ → Container
given_input p the_case v a = input_by (v a) (input_of p the_case v a)

-- what an activity comes to under this valuation, and the input that it is given
abbrev pub evaluated_activity : Plan → Container → Valuation → ℕ → EvaluatedActivity
evaluated_activity p the_case v a = record { outcome = v a; input = given_input p the_case v a }

-- every outcome, input and status, and the charge, are those of this valuation
pub record Tells (p : Plan) (the_case : Container) (v : Valuation) (e : Evaluated) : Type 0 where
  pub outcomes_long : length (outcomes_of e) ≡ p.count
  pub inputs_long : length (inputs_of e) ≡ p.count
  pub statuses_long : length (statuses_of e) ≡ length p.links
  pub outcomes_are : (a : ℕ) → a < p.count → slice_index_or (outcomes_of e) a Skipped ≡ v a
  pub inputs_are : (a : ℕ) → a < p.count → slice_index_or (inputs_of e) a no_output ≡ given_input p the_case v a
  pub statuses_are : (l : ℕ) → l < length p.links → slice_index_or (statuses_of e) l false ≡ statuses p v l
  pub charge_is : e.charge ≡ charge_of p v

abbrev pub Comes : Plan → Container → Answers → Evaluated → Type 0
Comes p the_case answers e = Tells p the_case (evaluated p the_case answers) e

-- either the evaluation, and the busy number has not grown; or busy, and it has fallen
abbrev pub Evaluates : Plan → Container → Answers → ℕ → ℕ → Option Evaluated → Type 0
Evaluates p the_case answers before after (Some e) = Comes p the_case answers e × (after ≤ before)
Evaluates p the_case answers before after None = after < before
