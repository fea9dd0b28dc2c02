-- The bytes of a row.
use Rattle.std.specs.Prelude.{ℕ, ◌/◌, ◌%◌, List, [], ◌∷◌, ◌++◌, replicate, ℤ, pos, Some, None, Ok, Err, Option, Result}
use Rattle.std.specs.List.{flat_map}
use Rattle.values.specs.Layout.{signed_bytes, tagged, field_bytes}
use Rattle.partners.specs.Answers.{fault_code}
use Rattle.tables.specs.declared.source.Source.{Source}
use Rattle.tables.specs.declared.source.Source.TheVariants.{Given, Copied}
use Rattle.tables.specs.declared.outputs.Outputs.{Outputs}
use Rattle.tables.specs.declared.fit.Span.{Span}
use Rattle.tables.specs.declared.outcome.RowFault.{RowFault}
use Rattle.tables.specs.declared.row.Row.{Row}

-- a number in two bytes, the lowest first
abbrev pub two_bytes : ℕ → List ℕ
two_bytes n = n % 256 ∷ n / 256 ∷ []

-- a tag and a value; a given field as in a case, and tag 2 for a copied one
abbrev pub source_bytes : Source → List ℕ
source_bytes (Given f) = field_bytes f
source_bytes (Copied n) = tagged 2 (pos n.number)

abbrev pub outputs_bytes : Outputs → List ℕ
outputs_bytes o = flat_map source_bytes o.sources

-- the tested field, low and high
abbrev pub span_bytes : ℕ → ℤ → ℤ → List ℕ
span_bytes tested low high = tagged tested low ++ signed_bytes high

abbrev pub fit_bytes : Option Span → List ℕ
fit_bytes None = span_bytes 255 (pos 0) (pos 0)
fit_bytes (Some s) = span_bytes s.field.number s.low s.high

-- the fault and the outputs: one of the two is zero bytes
abbrev pub outcome_bytes : Result Outputs RowFault → List ℕ
outcome_bytes (Err f) = two_bytes (fault_code f.fault) ++ replicate 72 0
outcome_bytes (Ok o) = two_bytes 0 ++ outputs_bytes o

abbrev pub row_bytes : Row → List ℕ
row_bytes r = two_bytes r.operation ++ (fit_bytes r.fit ++ outcome_bytes r.outcome)
