use Rattle.tokens.proofs.Laws.{tokens_of}
use Rattle.conditions.specs.Texts.{text_bytes}
use Rattle.conditions.proofs.text.Text.check_transition.Goals as goal

pub returns-in_err-weigh_transition-clause-tokens : goal.returns-in_err-weigh_transition-clause-tokens
returns-in_err-weigh_transition-clause-tokens c = tokens_of (text_bytes c.args.self.now)

pub returns-clause-tokens : goal.returns-clause-tokens
returns-clause-tokens c = tokens_of (text_bytes c.args.self.now)
