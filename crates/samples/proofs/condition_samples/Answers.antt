use Rattle.samples.proofs.Conditions.{condition_samples}
use Rattle.samples.proofs.condition_samples.Goals as goal

pub returns : goal.returns
returns c = condition_samples
