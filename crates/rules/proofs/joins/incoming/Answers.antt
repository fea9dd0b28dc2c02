use Rattle.std.proofs.Common.{length, sym, ap, ◌∙◌, arith, length-append}
use Rattle.std.proofs.ByRecursion.{All-push}
use Rattle.lists.specs.Lists.{items}
use Rattle.rules.proofs.Into.{same_byte, one_pushed, with_one, with_none}
use Rattle.rules.proofs.joins.incoming.Goals as goal
use Rattle.rules.proofs.joins.incoming.Goals.{then-from-activity+in_ok-ok+in_ok-ok-2, else-from-activity}

pub loop-k-preserved : goal.loop-k-preserved
loop-k-preserved g c =
    let so_far = c.loop-k.invariant in
    let list = items c.loop-k.list in
    elim c.if-from-activity.branch [
      | then-from-activity+in_ok-ok+in_ok-ok-2 w ↦
          let pushed = ap items w.list-is ∙ one_pushed _ w.push.result _ _ _ _ w.push.ensures w.in_ok-ok-2.ensures.value in
          let number = same_byte w.try_from.result _ _ _ w.try_from.ensures w.in_ok-ok.ensures.value in
          record {
            few = rw pushed (omega (arith, length-append list, so_far.few));
            listed = with_one c.args.links.now c.args.activity c.loop-k.k list c.loop-k-test.true so_far.listed _ _ (sym c.from.ensures ∙ w.if-from-activity.true) number pushed;
            statuses = rw pushed (All-push _ list _ so_far.statuses (rw number w.status.ensures));
          }
      | else-from-activity w ↦ record {
        few = omega (arith, ap (λ l. length (items l)) w.list-is, so_far.few);
        listed = rw w.list-is (with_none c.args.links.now c.args.activity c.loop-k.k list c.loop-k-test.true so_far.listed (λ e. w.if-from-activity.false (c.from.ensures ∙ e)));
        statuses = rw w.list-is so_far.statuses;
      }
    ]
