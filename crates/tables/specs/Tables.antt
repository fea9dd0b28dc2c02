-- What a rule table answers: the first row of the operation that fits the input decides.
use Rattle.std.specs.Prelude.{◌≡◌, ℕ, List, ◌∷◌, ◌++◌, find, Some, None, Option}
use Rattle.std.proofs.Common.{lit≤}
use Rattle.std.specs.List.{AllByRecursion}
use Rattle.lists.specs.Lists.{items}
use Rattle.values.specs.declared.container.Container.{Container}
use Rattle.partners.specs.declared.fault.Fault.{Fault}
use Rattle.partners.specs.Answers.{Answer, Answers, faults}
use Rattle.tables.specs.declared.row.Row.{Row}
use Rattle.tables.specs.declared.table.RuleTable.{RuleTable}
use Rattle.tables.specs.Answers.{Applies, applies, row_answer}

abbrev pub rows_of : RuleTable → List Row
rows_of t = items t.rows

-- none of these rows is of the operation and fits the input
abbrev pub NoneApplies : ℕ → Container → List Row → Type 0
NoneApplies operation input rows = AllByRecursion (λ r. Applies operation input r → ⊥) rows

-- the row is of the operation and fits the input, and no row before it does
pub record FirstFit (rows : List Row) (operation : ℕ) (input : Container) (row : Row) : Type 0 where
  pub before : List Row
  pub after : List Row
  pub rows_are : rows ≡ before ++ row ∷ after
  pub none_before : NoneApplies operation input before
  pub row_applies : Applies operation input row

-- the first row that fits, or none where none does
abbrev pub ByFirstFit : List Row → ℕ → Container → Option Row → Type 0
ByFirstFit rows operation input (Some row) = FirstFit rows operation input row
ByFirstFit rows operation input None = NoneApplies operation input rows

-- the same, computed
abbrev pub first_fitting : ℕ → Container → List Row → Option Row
first_fitting operation input rows = find (applies operation input) rows

-- what is computed is the first row that fits, and nothing else is
abbrev pub FirstFitComputed : Type 0
FirstFitComputed = (rows : List Row) (operation : ℕ) (input : Container) → ByFirstFit rows operation input (first_fitting operation input rows) × ((r : Option Row) → ByFirstFit rows operation input r → r ≡ first_fitting operation input rows)

-- the fault where no row fits
abbrev pub no_row_fault : Fault
no_row_fault = record { code = 1; some = lit≤ tt }

abbrev pub answer_by : Container → Option Row → Answer
answer_by input (Some row) = row_answer input row
answer_by input None = faults no_row_fault

abbrev pub table_answers : List Row → Answers
table_answers rows operation input = answer_by input (first_fitting operation input rows)
