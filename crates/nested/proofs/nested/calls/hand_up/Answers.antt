use Rattle.std.proofs.Common.{◌≡◌, sym, ap, ◌∙◌, rules}
use Rattle.std.proofs.lemmas.Option.{MatchOption-at_some}
use Rattle.partners.proofs.Same.{same_fault}
use Rattle.partners.specs.Answers.{faults}
use Rattle.nested.specs.Nesting.{handed_up, skipped_fault}
use Rattle.nested.proofs.nested.calls.hand_up.Goals as goal

pub returns-in-Skipped : goal.returns-in-Skipped
returns-in-Skipped c before after =
    (ap handed_up c.in-Skipped.is ∙ ap faults (sym (same_fault c.unwrap.result skipped_fault (MatchOption-at_some _ (λ f. f.code ≡ 2) _ c.unwrap.ensures c.new.ensures))), search rules)
