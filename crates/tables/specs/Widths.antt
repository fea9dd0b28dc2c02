-- The widths of what a row is made of.
use Rattle.std.proofs.Common.{◌≡◌, ◌*◌, length, Some, None, Ok, Err, Option, Result, refl, ap, ◌∙◌, arith, length-append}
use Rattle.values.proofs.Encodings.{wide_field}
use Rattle.values.proofs.Records.{length_joined}
use Rattle.tables.specs.declared.source.Source.{Source}
use Rattle.tables.specs.declared.source.Source.TheVariants.{Given, Copied}
use Rattle.tables.specs.declared.outputs.Outputs.{Outputs}
use Rattle.tables.specs.declared.fit.Span.{Span}
use Rattle.tables.specs.declared.outcome.RowFault.{RowFault}
use Rattle.tables.specs.declared.row.Row.{Row}
use Rattle.tables.specs.Layout.{source_bytes, outputs_bytes, fit_bytes, outcome_bytes, row_bytes}

pub wide_source : (s : Source) → length (source_bytes s) ≡ 9
wide_source (Given f) = wide_field f
wide_source (Copied n) = refl

pub wide_outputs : (o : Outputs) → length (outputs_bytes o) ≡ 72
wide_outputs o = length_joined source_bytes 9 wide_source o.sources ∙ ap (λ n. 9 * n) o.eight

pub wide_fit : (f : Option Span) → length (fit_bytes f) ≡ 17
wide_fit None = refl
wide_fit (Some s) = refl

pub wide_outcome : (o : Result Outputs RowFault) → length (outcome_bytes o) ≡ 74
wide_outcome (Err f) = refl
wide_outcome (Ok o) = omega (arith, wide_outputs o)

pub wide_row : (r : Row) → length (row_bytes r) ≡ 93
wide_row r = omega (arith, length-append (fit_bytes r.fit) (outcome_bytes r.outcome), wide_fit r.fit, wide_outcome r.outcome)
