use Rattle.std.proofs.Common.{◌≡◌, ℕ, List, get_or, Some, Option, ap, ◌∙◌, subst}
use Rattle.layout.specs.Drafts.{ElementAt}
use Rattle.partners.specs.Answers.{Answer}
use Rattle.partners.specs.Calls.{Said}
use Rattle.evaluation_laws.specs.declared.Outcome.{Outcome}
use Rattle.evaluation_laws.specs.declared.Outcome.TheVariants.{Skipped}
use Rattle.nested.specs.Nesting.{handed_up, nested_answers}
use Rattle.nested.proofs.nested.calls.NestedPartner.call.Goals as goal

outcome_is : (outcomes : List Outcome) (i : ℕ) (r : Option Outcome) (o : Outcome) → r ≡ Some o → ElementAt (λ x. x) Skipped outcomes i r → o ≡ get_or outcomes i Skipped
outcome_is outcomes i r o e h = (subst (λ r. ElementAt (λ x. x) Skipped outcomes i r) e h).1

pub returns : goal.returns
returns g c =
    let s = c.args.self.now in
    let tells = c.in-Some.ensures.evaluated in
    let came = outcome_is _ s.result c.outcome.result c.unwrap-outcome.result c.unwrap-outcome.ensures c.outcome.ensures ∙ tells.0.outcomes_are s.result s.within in
    record {
      same = ap (nested_answers s.flow s.result) c.in-Some.ensures.answers;
      no_more = tells.1;
      said = subst (λ (a : Answer). Said a (g.P.Partner.busy s.below) (g.P.Partner.busy c.evaluate.new.partner) c.hand_up.new.output c.hand_up.result) (ap handed_up came) (c.hand_up.ensures _ _);
    }
