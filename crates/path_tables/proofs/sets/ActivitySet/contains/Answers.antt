use Rattle.std.proofs.Common.{sym, ◌∙◌, arith}
use Rattle.std.proofs.lemmas.Bool.{le-ltb}
use Rattle.path_laws.proofs.Bits.{bit_past}
use Rattle.path_tables.proofs.sets.ActivitySet.contains.Goals as goal

pub returns-else-activity-lt32 : goal.returns-else-activity-lt32
returns-else-activity-lt32 c = le-ltb c.args.activity 32 (omega arith) ∙ sym (bit_past c.args.self.bits 32 c.args.activity (omega arith) (omega arith))
