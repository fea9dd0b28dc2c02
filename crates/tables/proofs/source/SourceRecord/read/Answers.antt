use Rattle.std.proofs.Common.{◌≡◌, pos, sym, ◌∙◌, arith, w64, SFits, rules}
use Rattle.std.proofs.lemmas.List.{take_all}
use Rattle.std.proofs.lemmas.Int.{to_z-of_z}
use Rattle.values.specs.Layout.{tagged}
use Rattle.tables.proofs.source.SourceRecord.read.Goals as goal

pub returns-in_ok-field_number : goal.returns-in_ok-field_number
returns-in_ok-field_number c =
    let t = c.in_ok-tagged.tagged in
    let f : SFits w64 t.value = search rules in
    let tag : t.tag ≡ 2 = c.if-tagged-eq-COPIED.true in
    let value : t.value ≡ pos c.in_ok-field_number.field-0.number = sym (to_z-of_z w64 t.value f) ∙ c.in_ok-field_number.ensures in
    sym (take_all 9 _ (omega (arith, c.if-bytes-ne-WIDTH.false))) ∙ c.in_ok-tagged.ensures ∙ (λ i. tagged (tag i) (value i))

pub returns-in_ok-field : goal.returns-in_ok-field
returns-in_ok-field c =
    sym (take_all 9 _ (omega (arith, c.if-bytes-ne-WIDTH.false))) ∙ c.in_ok-tagged.ensures ∙ sym c.in_ok-field.ensures
