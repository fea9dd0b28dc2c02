use Rattle.tokens.proofs.Laws.{tokens_of}
use Rattle.conditions.specs.Texts.{text_bytes}
use Rattle.conditions.proofs.text.Text.check_join.Goals as goal

pub returns-in_err-weigh_join-clause-tokens : goal.returns-in_err-weigh_join-clause-tokens
returns-in_err-weigh_join-clause-tokens c = tokens_of (text_bytes c.args.self.now)

pub returns-clause-tokens : goal.returns-clause-tokens
returns-clause-tokens c = tokens_of (text_bytes c.args.self.now)
