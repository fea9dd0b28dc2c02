use Rattle.layout.specs.Drafts.{parts_of}
use Rattle.rules.specs.declared.refusal.RuleRefusal.TheVariants.{BadConnector}
use Rattle.rules.specs.Rules.{Clear}
use Rattle.rules.proofs.connectors.check_connectors.Given as goal

abbrev pub invariant-loop-i : goal.invariant-loop-i
invariant-loop-i l = Clear (parts_of l.draft) (BadConnector l.i)
