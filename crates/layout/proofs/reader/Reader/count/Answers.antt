use Rattle.std.proofs.Common.{refl, arith}
use Rattle.std.proofs.lemmas.Grind.{common_steps}
use Rattle.layout.specs.Reading.{bad_count}
use Rattle.layout.proofs.reader.Reader.count.Goals as goal

pub returns-then-not-contains : goal.returns-then-not-contains
returns-then-not-contains c = bad_count refl c.number.new.self c.in_ok-number.field-0 c.in_ok-number.ensures (λ h. grind (arith, common_steps))
