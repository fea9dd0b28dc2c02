-- Which inputs a row fits, and what it answers.
use Rattle.std.specs.Prelude.{◌≡◌, ℕ, Bool, true, false, not, ◌&&◌, map, ◌≤ℤ◌, Some, None, Ok, Err, Option, Result, ◌==◌, int_lt}
use Rattle.std.proofs.Common.{◌∙◌}
use Rattle.std.proofs.lemmas.List.{length-map}
use Rattle.values.specs.declared.field.Field.{Field}
use Rattle.values.specs.declared.field.Field.TheVariants.{Blank, Number}
use Rattle.values.specs.declared.container.Container.{Container}
use Rattle.values.specs.Amounts.{size}
use Rattle.values.specs.Layout.{field_at}
use Rattle.partners.specs.declared.partner.Reply.{Reply}
use Rattle.partners.specs.declared.partner.Reply.TheVariants as Replies
use Rattle.partners.specs.Answers.{Answer, gives, faults}
use Rattle.partners.specs.Calls.{EightBlanks}
use Rattle.tables.specs.declared.source.Source.{Source}
use Rattle.tables.specs.declared.source.Source.TheVariants.{Given, Copied}
use Rattle.tables.specs.declared.outputs.Outputs.{Outputs}
use Rattle.tables.specs.declared.fit.Span.{Span}
use Rattle.tables.specs.declared.outcome.RowFault.{RowFault}
use Rattle.tables.specs.declared.row.Row.{Row}

-- a number from low to high, both included; a blank never
abbrev pub Inside : Span → Field → Type 0
Inside s Blank = ⊥
Inside s (Number a) = (s.low ≤ℤ size a) × (size a ≤ℤ s.high)

abbrev pub FitsInput : Option Span → Container → Type 0
FitsInput None input = Unit {0}
FitsInput (Some s) input = Inside s (field_at input s.field.number)

-- the row is of that operation and fits the input
abbrev pub Applies : ℕ → Container → Row → Type 0
Applies operation input r = (r.operation ≡ operation) × FitsInput r.fit input

-- the same, computed
abbrev pub inside : Span → Field → Bool
inside s Blank = false
inside s (Number a) = not (int_lt (size a) s.low) && not (int_lt s.high (size a))

abbrev pub fits_input : Option Span → Container → Bool
fits_input None input = true
fits_input (Some s) input = inside s (field_at input s.field.number)

abbrev pub applies : ℕ → Container → Row → Bool
applies operation input r = r.operation == operation && fits_input r.fit input

-- the field that a source is over an input
abbrev pub chosen : Container → Source → Field
chosen input (Given f) = f
chosen input (Copied n) = field_at input n.number

abbrev pub output_over : Container → Outputs → Container
output_over input o = record { fields = map (chosen input) o.sources; eight = length-map o.sources (chosen input) ∙ o.eight }

abbrev pub outcome_answer : Container → Result Outputs RowFault → Answer
outcome_answer input (Err f) = faults f.fault
outcome_answer input (Ok o) = gives (output_over input o)

abbrev pub row_answer : Container → Row → Answer
row_answer input r = outcome_answer input r.outcome

-- the answer is handed over: an output in its place, or a fault and eight blanks
abbrev pub Replied : Answer → Container → Reply → Type 0
Replied (gives c) out r = (r ≡ Replies.Done) × (out ≡ c)
Replied (faults f) out r = (r ≡ Replies.Fault f) × EightBlanks out
