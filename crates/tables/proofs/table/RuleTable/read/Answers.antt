use Rattle.std.proofs.Common.{◌∙◌, refl, arith}
use Rattle.std.proofs.lemmas.Result.{err_from_is_err_and}
use Rattle.lists.specs.Lists.{items}
use Rattle.tables.proofs.Verdicts.{not_sized, row_refused, table_from_rows}
use Rattle.tables.proofs.table.RuleTable.read.Goals as goal
use Rattle.tables.proofs.table.RuleTable.read.Goals.{then-count-gt64-via-then-count-gt64, then-count-gt64-via-else-count-gt64+then-rows-count}

pub returns-then-count-gt64-clause-verdict : goal.returns-then-count-gt64-clause-verdict
returns-then-count-gt64-clause-verdict c =
    let stands = c.from-count.ensures ∙ c.from_le_bytes.ensures in (
      not_sized c.args.bytes.now c.from-count.result c.in-len2-up.len_at_least stands (omega (arith, c.type_inv.bytes 0)) (λ few long. elim c.then-count-gt64.branch [ then-count-gt64-via-then-count-gt64 w ↦ omega arith | then-count-gt64-via-else-count-gt64+then-rows-count w ↦ w.if-rows-count.true long ]),
      refl,
    )

pub returns-in_err-read_records-clause-verdict : goal.returns-in_err-read_records-clause-verdict
returns-in_err-read_records-clause-verdict c =
    let stands = c.from-count.ensures ∙ c.from_le_bytes.ensures in
    let bad = c.in_err-read_records.ensures in
    let p = err_from_is_err_and c.from_residual.result c.from_residual.ensures.1 in
    rw (p.1, p.2) (row_refused c.args.bytes.now c.from-count.result c.in-len2-up.len_at_least stands (omega (arith, c.type_inv.bytes 0)) c.if-count-gt64.false c.if-rows-count.false _ bad.0 bad.1, refl)

pub returns-clause-verdict : goal.returns-clause-verdict
returns-clause-verdict c =
    let stands = c.from-count.ensures ∙ c.from_le_bytes.ensures in
    record {
      rows = items c.read_records.new.records;
      encoded = table_from_rows c.args.bytes.now c.from-count.result c.in-len2-up.len_at_least stands (omega (arith, c.type_inv.bytes 0)) c.if-count-gt64.false c.if-rows-count.false _ c.in_ok-read_records.ensures;
      table_is = record { rows_are = refl; answers_are = refl; busy_is = refl };
    }
