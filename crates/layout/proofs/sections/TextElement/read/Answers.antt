use Rattle.std.proofs.Common.{ap, arith}
use Rattle.std.proofs.lemmas.Grind.{common_steps}
use Rattle.std.proofs.lemmas.Result.{err_from_is_err_and}
use Rattle.layout.specs.declared.refusal.LayoutRefusal.TheVariants.{TextLength}
use Rattle.layout.specs.Reading.{bad_length, short_text}
use Rattle.layout.proofs.sections.TextElement.read.Goals as goal

pub returns-then-not-contains : goal.returns-then-not-contains
returns-then-not-contains c =
    bad_length (ap TextLength c.place-at.ensures) c.byte.new.self c.in_ok-byte.field-0 c.in_ok-byte.ensures (λ h. grind (arith, common_steps))

pub returns-in_err-content : goal.returns-in_err-content
returns-in_err-content c =
    let p = err_from_is_err_and c.from_residual-in_err-content.result c.from_residual-in_err-content.ensures.1 in
    rw (p.1, p.2) (short_text c.byte.new.self c.in_ok-byte.field-0 c.in_ok-byte.ensures (grind (arith, common_steps)) (rw c.from-length.ensures at c.in_err-content.ensures))
