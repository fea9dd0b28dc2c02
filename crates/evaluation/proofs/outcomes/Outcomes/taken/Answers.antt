use Rattle.std.proofs.Common.{◌≡◌, eqb, sym, ap, ◌∙◌, arith}
use Rattle.std.proofs.lemmas.Bool.{cond-false, ne_eqb}
use Rattle.std.proofs.lemmas.Option.{MatchOption-at_some}
use Rattle.values.specs.Layout.{field_at}
use Rattle.evaluation_laws.specs.Evaluations.{outputs}
use Rattle.evaluation.specs.Flows.{valuation_of}
use Rattle.evaluation.proofs.FieldByField.{kind_known}
use Rattle.evaluation.proofs.outcomes.Outcomes.taken.Goals as goal

pub unwrap-requires : goal.unwrap-requires
unwrap-requires c = kind_known _ c.args.connector.now _ c.requires.sourced c.try_from.ensures

pub returns-in-Output : goal.returns-in-Output
returns-in-Output c p =
    let k = c.args.connector.now in
    let v = valuation_of c.args.self.now.places.now in
    let two : 2 ≡ k.kind = rw (c.unwrap.ensures, c.in-Output.is) at c.try_from.ensures in
    let number = MatchOption-at_some _ (λ x. x.number ≡ k.source_field) _ c.unwrap-from.ensures c.new.ensures in
    c.field-in-Output.ensures.value
    ∙ (λ i. field_at ((c.output.ensures p ∙ ap (outputs p v) c.from.ensures) i) (number i))
    ∙ sym (cond-false (eqb k.kind 1) _ _ (ne_eqb k.kind 1 (λ one. omega (arith, one, two))))
