use Rattle.std.proofs.Common.{◌∷◌, sym, refl, ap, ◌∙◌, subst, arith}
use Rattle.std.proofs.lemmas.Bool.{cond-false}
use Rattle.grammar.specs.Grammar.{Tree}
use Rattle.grammar.specs.Symbols.{link_word}
use Rattle.grammar.proofs.Joins.{none_fails, link_done}
use Rattle.conditions.proofs.Parts.{kept_same, bad_follows, found, missing, failed_on, failed_over, read_over}
use Rattle.conditions.specs.Steps.{Looks}
use Rattle.tokens.specs.declared.fault.Fault.{Fault}
use Rattle.conditions.proofs.parser.Parser.link.Goals as goal

pub returns-in_default : goal.returns-in_default
returns-in_default c = record { kept = kept_same; says = failed_over c.in_default.is (none_fails (λ d. refl) refl) }

pub returns-in_err-status : goal.returns-in_err-status
returns-in_err-status c =
    let none = missing c.look_up.result c.ok_or.ensures.value c.in_err-status.was in
    failed_on c.from_residual.result c.from_residual.ensures.1 kept_same
    (failed_over c.in-Join.is (none_fails (λ d. cond-false _ _ _ (subst (Looks c.in-Join.incoming.now c.args.link) none.0 c.look_up.ensures)) (ap (λ (f : Fault). f.place) (sym none.1))))

pub returns-in_err-advance : goal.returns-in_err-advance
returns-in_err-advance c =
    let looked = subst (Looks c.in-Join.incoming.now c.args.link) (found c.ok_or.ensures.ok_part c.in_ok-status.was) c.look_up.ensures in
    failed_on c.from_residual-in_err-advance.result c.from_residual-in_err-advance.ensures.1 c.in_err-advance.ensures.kept
    (failed_over c.in-Join.is (bad_follows (link_done {means = λ (t : Tree). Unit {0}} refl looked.0 tt) c.in_err-advance.ensures.says))

pub returns : goal.returns
returns c =
    let told = c.in_ok-advance.ensures in
    let looked = subst (Looks c.in-Join.incoming.now c.args.link) (found c.ok_or.ensures.ok_part c.in_ok-status.was) c.look_up.ensures in
    record {
      kept = told.kept;
      says = read_over c.in-Join.is (record {
        done = link_done (ap (λ ts. (c.args.place, link_word c.args.link) ∷ ts) (sym told.says.0)) looked.0 (c.constant.ensures ∙ looked.1);
        ready = told.says.1;
        shorter = omega (arith, told.says.2);
      });
    }
