use Rattle.std.proofs.Common.{◌≡◌, ◌*◌, ◌++◌, ◌<◌, length, sym, ap, ◌∙◌, subst}
use Rattle.std.specs.List.{flat_map}
use Rattle.std.specs.Slice.Iter.{chunks_exact_rest}
use Rattle.std.proofs.lemmas.Result.{err_from_is_err_and}
use Rattle.lists.specs.Lists.{items}
use Rattle.tables.specs.Records.{Reads, FirstBad}
use Rattle.tables.proofs.Joined.{first_bad, fewer, room, all_read, pushed, error_is}
use Rattle.tables.proofs.records.read_records.Goals as goal

pub returns-in_err-record : goal.returns-in_err-record
returns-in_err-record g c =
    let f = g.R.Record.encoding in
    let width = g.R.Record.WIDTH in
    let wide = g.met.R.Record.wide in
    let bs = c.args.bytes.now in
    let xs = items c.loop-piece.records in
    let steps = c.in-Some.ensures.steps in
    let i = c.loop-piece.invariant in
    let e = i.3 ∙ ap (λ l. flat_map f xs ++ l) steps.1.0 in
    let long = steps.1.1 ∙ i.2 in
    let refused = c.in_err-record.ensures in
    let number : c.in_err-record.field-0.0.number ≡ length xs = ap (λ b. b.number) (error_is c.read.result _ _ refused.value refused.ok_part) ∙ c.len-number.ensures in
    let none = subst (Reads f c.in-Some.piece.now) refused.ok_part c.read.ensures in
    let p = err_from_is_err_and c.from_residual.result c.from_residual.ensures.1 in
    rw (p.1, p.2) (subst (λ k. (width * k < length bs) × FirstBad f width bs k) (sym number) (fewer f width wide bs xs _ _ e long g.met.R.Record.some_bytes, first_bad f width wide bs xs _ _ e long none))

pub unwrap-requires : goal.unwrap-requires
unwrap-requires g c =
    let f = g.R.Record.encoding in
    let xs = items c.loop-piece.records in
    let steps = c.in-Some.ensures.steps in
    let i = c.loop-piece.invariant in
    let e = i.3 ∙ ap (λ l. flat_map f xs ++ l) steps.1.0 in
    pushed _ _ _ _ _ c.push.ensures (room f g.R.Record.WIDTH g.met.R.Record.wide c.args.bytes.now xs _ _ c.requires.whole.count e (steps.1.1 ∙ i.2) g.met.R.Record.some_bytes c.requires.whole.length_is) c.requires.whole.few

pub returns : goal.returns
returns g c =
    let i = c.loop-piece.invariant in
    let short = subst (λ n. length (chunks_exact_rest c.loop-piece.piece-iterator) < n) i.2 c.in-None.ensures.steps.1.0 in
    all_read g.R.Record.encoding g.R.Record.WIDTH g.met.R.Record.wide c.args.bytes.now (items c.loop-piece.records) _ c.requires.whole.count i.3 short c.requires.whole.length_is
