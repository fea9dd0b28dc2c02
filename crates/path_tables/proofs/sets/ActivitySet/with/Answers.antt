use Rattle.std.proofs.Common.{arith}
use Rattle.path_laws.proofs.Bits.{bit_more}
use Rattle.path_tables.proofs.sets.ActivitySet.with.Goals as goal

pub returns-then-activity-lt32 : goal.returns-then-activity-lt32
returns-then-activity-lt32 c = bit_more 32 c.args.self.bits c.args.activity (omega arith)
