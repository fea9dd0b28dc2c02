use Rattle.std.proofs.Common.{◌≡◌, ℕ, List, length, sym, ◌∙◌, subst, w64, SFits, rules}
use Rattle.std.proofs.lemmas.Int.{to_z-of_z}
use Rattle.values.specs.Layout.{tagged, signed_bytes}
use Rattle.tables.specs.Layout.{fit_bytes, span_bytes}
use Rattle.tables.specs.Records.{Reads}
use Rattle.tables.proofs.Pieces.{front_and_back}
use Rattle.tables.proofs.fit.reading.read_fit.Goals as goal

pub returns : goal.returns
returns c =
    let bs = c.args.bytes.now in
    let t = c.in_ok-tested.tested in
    let high = c.signed_number.result in
    let long : length bs ≡ 17 = search rules in
    let whole : bs ≡ span_bytes t.tag t.value high = front_and_back 9 8 bs (tagged t.tag t.value) (signed_bytes high) long (sym c.in_ok-tested.ensures) (sym c.signed_number.ensures ∙ c.in_ok-high.ensures.cases.1.same) in
    let f : SFits w64 t.value = search rules in
    let g : SFits w64 high = search rules in
    subst (λ (bs : List ℕ). Reads fit_bytes bs c.fit_of.result) (sym whole) (simp to_z-of_z at c.fit_of.ensures)
