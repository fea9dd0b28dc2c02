use Rattle.std.proofs.Common.{◌≡◌, ℕ, ◌+◌, ◌+ℤ◌, sym, refl, ap, ◌∙◌, add-one, arith}
use Rattle.std.proofs.lemmas.Int.{ints}
use Rattle.evaluation_laws.specs.Evaluations.{charge_below, charged}
use Rattle.evaluation.specs.Flows.{valuation_of}
use Rattle.evaluation.proofs.Places.{outcome_read}
use Rattle.evaluation.proofs.evaluated.making.sum.Goals as goal

pub loop-outcome-preserved : goal.loop-outcome-preserved
loop-outcome-preserved c =
    let outcomes = c.args.outcomes.now in
    let a = c.loop-outcome.outcome-index in
    let v = valuation_of outcomes in
    let is = outcome_read outcomes a a _ refl c.loop-outcome-test.true c.outcome-item.is in
    let adds : c.added-sum.result ≡ charged (v a) = c.added-sum.ensures.value ∙ ap charged (sym is) in
    let so_far : c.loop-outcome.sum ≡ charge_below a v = sym c.loop-outcome.sum-is ∙ c.loop-outcome.invariant.0 in
    let next : c.loop-outcome.sum +ℤ c.added-sum.result ≡ charge_below (a + 1) v = (λ i. so_far i +ℤ adds i) ∙ ap (λ (n : ℕ). charge_below n v) (sym (add-one a)) in
    (◌∙◌ {b = c.loop-outcome.sum +ℤ c.added-sum.result} (omega (arith, ints)) next, omega (arith, ints), omega (arith, ints))
