-- What activities come to, on a case and under answers.
use Rattle.std.specs.Prelude.{◌≡◌, ℕ, zero, suc, ◌<◌, Bool, true, false, cond, List, [], ◌∷◌, replicate, Some, None, Option, ℤ, pos, ◌+ℤ◌, ◌==◌, refl}
use Rattle.values.specs.declared.container.Container.{Container}
use Rattle.values.specs.declared.field.Field.{Field}
use Rattle.values.specs.declared.field.Field.TheVariants.{Blank, Number}
use Rattle.values.specs.Amounts.{size}
use Rattle.values.specs.Layout.{field_at}
use Rattle.partners.specs.declared.fault.Fault.{Fault}
use Rattle.partners.specs.Answers.{Answer, Answers, gives, faults}
use Rattle.evaluation_laws.specs.declared.Outcome.{Outcome}
use Rattle.evaluation_laws.specs.declared.Outcome.TheVariants.{Skipped, Completed, Faulted}
use Rattle.evaluation_laws.specs.Plans.{Plan, source_of, order_of}

abbrev pub no_output : Container
no_output = record { fields = replicate 8 Blank; eight = refl }

-- the output of an activity with this outcome: eight blanks, unless it completed
abbrev pub output_of : Plan → ℕ → Outcome → Container
output_of p a Skipped = no_output
output_of p a (Completed c) = c
output_of p a (Faulted f) = no_output

-- the output of an activity with this outcome, where it completed
abbrev pub given_output : Outcome → Option Container
given_output Skipped = None
given_output (Completed c) = Some c
given_output (Faulted f) = None

-- what a link takes where its source has this outcome: false, unless the source completed
abbrev pub taken : Plan → ℕ → Outcome → Bool
taken p l Skipped = false
taken p l (Completed c) = p.transition l c
taken p l (Faulted f) = false

-- an outcome for each activity
abbrev pub Valuation : Type 0
Valuation = ℕ → Outcome

abbrev pub outputs : Plan → Valuation → ℕ → Container
outputs p v a = output_of p a (v a)

abbrev pub statuses : Plan → Valuation → ℕ → Bool
statuses p v l = taken p l (v (source_of p l))

abbrev pub input_of : Plan → Container → Valuation → ℕ → Container
input_of p the_case v a = p.input a the_case (outputs p v)

abbrev pub joins : Plan → Valuation → ℕ → Bool
joins p v a = p.join a (statuses p v)

abbrev pub answer_to : Plan → Container → Answers → Valuation → ℕ → Answer
answer_to p the_case answers v a = answers (p.operation a) (input_of p the_case v a)

-- the rule of one activity, where v has the outcomes of the others: a false join makes it skipped;
-- otherwise the answer to its operation and input makes it completed or faulted
pub data Rule (p : Plan) (the_case : Container) (answers : Answers) (v : Valuation) (a : ℕ) : Outcome → Type 0 where
  by_join : joins p v a ≡ false → Rule p the_case answers v a Skipped
  by_output : {c : Container} → joins p v a ≡ true → answer_to p the_case answers v a ≡ gives c → Rule p the_case answers v a (Completed c)
  by_fault : {f : Fault} → joins p v a ≡ true → answer_to p the_case answers v a ≡ faults f → Rule p the_case answers v a (Faulted f)

-- a valuation that meets the rule at every activity
abbrev pub Evaluation : Plan → Container → Answers → Valuation → Type 0
Evaluation p the_case answers v = (a : ℕ) → a < p.count → Rule p the_case answers v a (v a)

-- two evaluations agree on every activity
abbrev pub OneEvaluation : Plan → Type 0
OneEvaluation p = (the_case : Container) (answers : Answers) (v w : Valuation) → Evaluation p the_case answers v → Evaluation p the_case answers w → (a : ℕ) → a < p.count → v a ≡ w a

-- the outcome that the rule gives
abbrev pub answered : Answer → Outcome
answered (gives c) = Completed c
answered (faults f) = Faulted f

abbrev pub ruled : Plan → Container → Answers → Valuation → ℕ → Outcome
ruled p the_case answers v a = cond (joins p v a) (answered (answer_to p the_case answers v a)) Skipped

abbrev pub with_outcome : Valuation → ℕ → Outcome → Valuation
with_outcome v a o b = cond (b == a) o (v b)

-- these activities treated one after the other
abbrev pub treated : Plan → Container → Answers → List ℕ → Valuation → Valuation
treated p the_case answers [] v = v
treated p the_case answers (a ∷ rest) v = treated p the_case answers rest (with_outcome v a (ruled p the_case answers v a))

abbrev pub none_treated : Valuation
none_treated a = Skipped

-- all activities treated by rank
abbrev pub evaluated : Plan → Container → Answers → Valuation
evaluated p the_case answers = treated p the_case answers (order_of p) none_treated

-- treating activities by rank computes the evaluation
abbrev pub ByRank : Plan → Type 0
ByRank p = (the_case : Container) (answers : Answers) → Evaluation p the_case answers (evaluated p the_case answers)

-- what an activity adds to the charge: field f7 of its output where it completed, a blank as 0
abbrev pub amount_in : Field → ℤ
amount_in Blank = pos 0
amount_in (Number a) = size a

abbrev pub charged : Outcome → ℤ
charged Skipped = pos 0
charged (Completed c) = amount_in (field_at c 7)
charged (Faulted f) = pos 0

-- the charge of the first n activities
abbrev pub charge_below : ℕ → Valuation → ℤ
charge_below zero v = pos 0
charge_below (suc n) v = charge_below n v +ℤ charged (v n)

abbrev pub charge_of : Plan → Valuation → ℤ
charge_of p v = charge_below p.count v
