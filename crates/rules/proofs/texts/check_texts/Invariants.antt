use Rattle.layout.specs.Drafts.{parts_of}
use Rattle.rules.specs.declared.refusal.RuleRefusal.TheVariants.{BadText}
use Rattle.rules.specs.Rules.{Clear}
use Rattle.rules.proofs.texts.check_texts.Given as goal

abbrev pub invariant-loop-i : goal.invariant-loop-i
invariant-loop-i l = Clear (parts_of l.draft) (BadText l.i-counter 0)
