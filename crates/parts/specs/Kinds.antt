-- The numbers of the kinds of connectors.
use Rattle.std.specs.Prelude.{◌≡◌, ◌≢◌, ℕ, Ok, Err, Result}
use Rattle.parts.specs.declared.ConnectorKind.{ConnectorKind}
use Rattle.parts.specs.declared.ConnectorKind.TheVariants.{Case, Output}
use Rattle.parts.specs.declared.UnknownKind.{UnknownKind}

abbrev pub kind_number : ConnectorKind → ℕ
kind_number Case = 1
kind_number Output = 2

-- the kind with this number, or there is none
abbrev pub HasKind : ℕ → Result ConnectorKind UnknownKind → Type 0
HasKind n (Ok kind) = kind_number kind ≡ n
HasKind n (Err e) = (e.0 ≡ n) × ((kind : ConnectorKind) → kind_number kind ≢ n)
