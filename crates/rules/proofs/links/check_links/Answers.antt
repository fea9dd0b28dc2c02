use Rattle.std.proofs.Common.{rules}
use Rattle.layout.specs.Drafts.{parts_of}
use Rattle.rules.specs.Rules.{LinkedBefore}
use Rattle.rules.proofs.Linked.{linked_in}
use Rattle.rules.proofs.links.check_links.Goals as goal

pub loop-i-preserved : goal.loop-i-preserved
loop-i-preserved c =
    let new : LinkedBefore (parts_of c.args.draft.now).links c.loop-i.i → ⊥ = λ l. cc (linked_in c.links-links.result.now c.loop-i.i c.loop-i-test.true (rw c.links-links.ensures l), c.contains.ensures.value, c.if-contains.false) in
    search rules
