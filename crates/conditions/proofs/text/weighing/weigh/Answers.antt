use Rattle.std.proofs.Common.{Err, ap, ◌∙◌}
use mathlib.Core.Path.{subst⁻¹}
use Rattle.std.proofs.lemmas.Result.{err_from_is_err_and}
use Rattle.conditions.specs.Texts.{Weighed}
use Rattle.conditions.specs.Values.{kind_of, tests_of}
use Rattle.conditions.proofs.Whole.{stopped, more_follows}
use Rattle.conditions.proofs.text.weighing.weigh.Goals as goal

pub returns-in_err-value : goal.returns-in_err-value
returns-in_err-value c =
    let p = err_from_is_err_and c.from_residual.result c.from_residual.ensures.1 in
    subst⁻¹ (Weighed (kind_of c.args.ground) (tests_of c.args.ground) c.args.text.now) (p.1 ∙ ap Err p.2) (stopped c.in_err-value.field-0.0 c.condition.new.self c.new-parser.ensures c.in_err-value.ensures)

pub returns-in_err-end : goal.returns-in_err-end
returns-in_err-end c =
    let p = err_from_is_err_and c.from_residual-in_err-end.result c.from_residual-in_err-end.ensures.1 in
    subst⁻¹ (Weighed (kind_of c.args.ground) (tests_of c.args.ground) c.args.text.now) (p.1 ∙ ap Err p.2) (more_follows c.in_ok-value.value c.in_err-end.field-0.0 _ c.new-parser.ensures c.in_ok-value.ensures c.in_err-end.ensures)
