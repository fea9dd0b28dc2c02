use Rattle.std.proofs.Common.{arith}
use Rattle.std.proofs.iter.Serving.{serving}
use Rattle.rules.proofs.Turns.{text_clear}
use Rattle.rules.proofs.Faults.{place_small, number_small, faultless}
use Rattle.rules.proofs.texts.check_texts.Goals as goal

pub map_err-requires : goal.map_err-requires
map_err-requires c =
    let number = number_small c.args.draft.now c.texts-text-items.result.now c.texts-text-items.ensures c.loop-i.i-counter c.loop-i-test.true in
    let place = place_small _ c.text-item.result c.check_text.result c.check_text.ensures in
    grind (serving, arith)

pub loop-i-preserved : goal.loop-i-preserved
loop-i-preserved c =
    let ts = c.texts-text-items.result.now in
    text_clear _ c.loop-i.i-counter c.loop-i.invariant
    (faultless c.args.draft.now ts c.loop-i.i-counter c.text-item.result c.check_text.result c.texts-text-items.ensures c.loop-i-test.true c.text-item.is c.check_text.ensures (cc (c.in_ok-map_err.ensures.variant)))
