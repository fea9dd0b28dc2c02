use Rattle.std.proofs.Common.{length, get_or, sym, ap, ◌∙◌, arith}
use Rattle.std.proofs.lemmas.List.{length-take-le, get_or-take}
use Rattle.tables.specs.Layout.{two_bytes, fit_bytes, outcome_bytes}
use Rattle.tables.specs.Widths.{wide_outcome}
use Rattle.tables.proofs.Pieces.{two_bytes_read}
use Rattle.tables.proofs.Encodings.{three_parts, outcome_part}
use Rattle.tables.proofs.row.RowRecord.read.Goals as goal

pub returns-in_err-as_array : goal.returns-in_err-as_array
returns-in_err-as_array c =
    rw c.from_residual-in_err-as_array.ensures (λ x e. c.in_err-as_array.ensures.cases (ap length (outcome_part c.args.bytes.now _ _ c.in_ok-operation.ensures.cases.1 c.in_ok-fit.ensures.cases.1 x e) ∙ wide_outcome x.outcome))

pub returns-in_err-read_outcome : goal.returns-in_err-read_outcome
returns-in_err-read_outcome c =
    rw c.from_residual-in_err-read_outcome.ensures (λ x e. c.in_err-read_outcome.ensures x.outcome (c.in_ok-as_array.ensures.cases.same ∙ outcome_part c.args.bytes.now _ _ c.in_ok-operation.ensures.cases.1 c.in_ok-fit.ensures.cases.1 x e))

pub returns : goal.returns
returns c =
    let bs = c.args.bytes.now in
    let front = c.in_ok-operation.ensures.cases in
    let two = ap length front.0 ∙ length-take-le 2 bs (omega (arith, front.2)) in
    let code = two_bytes_read c.from_le_bytes.result c.in_ok-operation.operation.now two c.from_le_bytes.ensures (omega (arith, c.type_inv.bytes 0, ap (λ l. get_or l 0 0) front.0, get_or-take 2 bs 0 0 (omega arith))) in
    three_parts bs (two_bytes c.from_le_bytes.result) c.in_ok-operation.rest.now (fit_bytes c.in_ok-read_fit.field-0) (outcome_bytes c.in_ok-read_outcome.field-0)
    (code ∙ front.0)
    front.1
    (sym c.in_ok-read_fit.ensures ∙ c.in_ok-fit.ensures.cases.0)
    (sym c.in_ok-read_outcome.ensures ∙ c.in_ok-as_array.ensures.cases.same ∙ c.in_ok-fit.ensures.cases.1)
