use Rattle.std.proofs.Common.{◌∙◌}
use Rattle.evaluation.proofs.Weighing.{transition_weighed}
use Rattle.evaluation.proofs.outcomes.joins.transition_holds.Goals as goal

pub returns : goal.returns
returns c = c.unwrap_or.ensures ∙ transition_weighed c.args.flow.now c.args.link c.args.output.now _ c.unwrap-text.result _ c.requires c.unwrap-text.ensures c.transition.ensures c.weigh_transition.ensures
