use Rattle.std.proofs.Common.{◌≡◌, ℕ, Bool, true, false, Ok, Err, Result, sym, refl, arith}
use Rattle.std.specs.Result.{result_eq}
use Rattle.parts.specs.declared.ConnectorKind.{ConnectorKind}
use Rattle.parts.specs.declared.ConnectorKind.TheVariants.{Case, Output}
use Rattle.parts.specs.declared.UnknownKind.{UnknownKind}
use Rattle.parts.specs.Kinds.{HasKind}
use Rattle.rules.proofs.connectors.lacks_path.Goals as goal

-- the kind of number 2 equals the output's
kind_two : (eqk : ConnectorKind → ConnectorKind → Bool) (equ : UnknownKind → UnknownKind → Bool) (n : ℕ) (r : Result ConnectorKind UnknownKind) → eqk Output Output ≡ true → HasKind n r → n ≡ 2 → false ≡ result_eq eqk equ r (Ok Output) → ⊥
kind_two eqk equ n (Ok Case) same k two e = omega arith
kind_two eqk equ n (Ok Output) same k two e = cc
kind_two eqk equ n (Err u) same k two e = k.1 Output (sym two)

pub returns-else-eq : goal.returns-else-eq
returns-else-eq c = (λ z. cc, λ lacks. absurd (kind_two _ _ c.args.connector.kind c.try_from.result refl c.try_from.ensures lacks.0 c.if-eq.ensures))
