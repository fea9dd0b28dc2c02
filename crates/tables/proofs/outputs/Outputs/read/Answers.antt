use Rattle.std.proofs.Common.{◌≡◌, length, sym, ap, arith}
use Rattle.values.proofs.Records.{length_joined}
use Rattle.lists.specs.Lists.{items}
use Rattle.tables.specs.Layout.{source_bytes}
use Rattle.tables.specs.Widths.{wide_source}
use Rattle.tables.proofs.Joined.{none_missed, listed_are}
use Rattle.tables.proofs.outputs.Outputs.read.Goals as goal

pub returns-in_err-ok : goal.returns-in_err-ok
returns-in_err-ok c =
    rw c.from_residual.ensures (λ o. none_missed source_bytes 9 wide_source c.args.bytes.now _ c.read_records.result c.read_records.ensures (sym c.in_err-ok.ensures.variant) o.sources)

pub unwrap-sources-requires : goal.unwrap-sources-requires
unwrap-sources-requires c =
    let l = items c.read_records.new.records in
    let are = listed_are source_bytes 9 wide_source c.args.bytes.now l c.read_records.result c.read_records.ensures (sym c.in_ok-ok.ensures.variant) in
    let eight : length c.as_slice.result.now ≡ 8 = omega (arith, ap length c.as_slice.ensures, ap length are, length_joined source_bytes 9 wide_source l, c.requires) in
    c.try_from.ensures.0 eight
