use Rattle.std.proofs.Common.{rules, length}
use Rattle.layout.specs.Drafts.{parts_of}
use Rattle.rules.specs.Rules.{Proper}
use Rattle.rules.proofs.Taken.{proper}
use Rattle.rules.proofs.connectors.check_connectors.Goals as goal

pub returns-then-lacks_path : goal.returns-then-lacks_path
returns-then-lacks_path c =
    let p = parts_of c.args.draft.now in
    let fine : Proper (length p.activities) p.connectors c.loop-i.i = proper _ _ _ (search rules) (search rules) (search rules) in
    search rules

pub loop-i-preserved : goal.loop-i-preserved
loop-i-preserved c =
    let p = parts_of c.args.draft.now in
    let fine : Proper (length p.activities) p.connectors c.loop-i.i = proper _ _ _ (search rules) (search rules) (search rules) in
    search rules
