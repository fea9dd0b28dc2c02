use Rattle.std.proofs.Common.{◌<◌, length, sym, ap, ◌∙◌, arith, rules}
use borrow.Author.Rules.{get_or_read}
use Rattle.values.specs.Layout.{field_bytes}
use Rattle.values.specs.Cases.{slot, case_bytes}
use Rattle.values.proofs.Encodings.{wide_field}
use Rattle.values.proofs.Records.{slot_joined}
use Rattle.values.proofs.container.Container.field.Goals as goal

pub returns : goal.returns
returns c =
    let fields = c.args.self.now.fields in
    let h : c.get.result < length fields = omega (arith, c.get.ensures.range, c.args.self.now.eight) in
    record {
      value = search (rules, get_or_read);
      bytes = ap (slot 9 (case_bytes c.args.self.now)) (sym c.get.ensures.value) ∙ slot_joined field_bytes 9 wide_field fields c.get.result c.index-self-get.result h;
    }
