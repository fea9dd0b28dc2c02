use Rattle.readings.proofs.Worked.{readings_worked_out}
use Rattle.readings.proofs.readings_worked_out.Goals as goal

pub returns : goal.returns
returns c = readings_worked_out
