use Rattle.std.proofs.Common.{◌≡◌, ℕ, ◌<◌, length, get_or, replicate, refl, ap, ◌∙◌, subst, ⊎_elim, arith, length-set}
use Rattle.std.proofs.lemmas.List.{get_or-replicate, get_or_past}
use Rattle.std.proofs.lemmas.Bool.{cases_lt}
use Rattle.flows.proofs.Sizes.{few_activities}
use Rattle.evaluation_laws.specs.declared.Outcome.TheVariants.{Skipped}
use Rattle.evaluation_laws.specs.Evaluations.{Valuation, ruled}
use Rattle.evaluation.specs.Flows.{flow_plan, valuation_of}
use Rattle.evaluation.specs.Evaluated.{Tells}
use Rattle.evaluation.proofs.Treating.{Treated, treated_more, treated_all, looks_of, ranks_of, one_of, by_rank_of, readings_of}
use Rattle.evaluation.proofs.evaluating.evaluate.Goals as goal

none : (a : ℕ) → get_or (replicate 32 Skipped) a Skipped ≡ Skipped
none a = ⊎_elim (λ l. get_or-replicate 32 a Skipped Skipped l) (λ ge. get_or_past (replicate 32 Skipped) a Skipped ge) (cases_lt a 32)

pub loop-activity-init : goal.loop-activity-init
loop-activity-init g c = record { long = refl; treated = none; answers = refl; busy = omega arith }

pub returns-in_err-places : goal.returns-in_err-places
returns-in_err-places g c =
    let f = c.args.flow.now in
    let was = c.in_err-places.ensures in
    record {
      answers = was.answers ∙ c.loop-activity.invariant.answers;
      evaluated = rw c.from_residual.ensures (omega (arith, was.outcome, c.loop-activity.invariant.busy));
      one_evaluation = one_of f;
      by_rank = by_rank_of f;
      looks_back = looks_of f;
      by_readings = readings_of f;
    }

pub loop-activity-preserved : goal.loop-activity-preserved
loop-activity-preserved g c =
    let f = c.args.flow.now in
    let p = flow_plan f in
    let answers = g.P.Partner.answers c.args.partner.now in
    let places = c.loop-activity.places in
    let i = c.loop-activity.activity-index in
    let items = c.by_rank-activity-items.ensures in
    let x = c.from-activity.result in
    let inv = c.loop-activity.invariant in
    let was = c.in_ok-places.ensures in
    let here : i < p.count = omega (arith, items.ranks.each_once.long, c.loop-activity-test.true) in
    let few : p.count < 33 = omega (arith, few_activities f) in
    let within : x < length places = omega (arith, items.ranks.each_once.below i here, c.from-activity.ensures, few, inv.long) in
    record {
      long = length-set places x _ ∙ inv.long;
      treated = treated_more p (looks_of f) (ranks_of f) c.args.case.now answers places i x c.in_ok-places.field-0 here
          (c.from-activity.ensures ∙ ap (λ xs. get_or xs i 0) (items.value ∙ f.ranked)) within
          (was.outcome.0 ∙ ap (λ q. ruled p c.args.case.now q (valuation_of places) x) inv.answers) inv.treated;
      answers = was.answers ∙ inv.answers;
      busy = omega (arith, was.outcome.1, inv.busy);
    }

pub returns : goal.returns
returns g c =
    let f = c.args.flow.now in
    let p = flow_plan f in
    let answers = g.P.Partner.answers c.args.partner.now in
    let items = c.by_rank-activity-items.ensures in
    let inv = c.loop-activity.invariant in
    let all : c.loop-activity.activity-index ≡ p.count = omega (arith, items.ranks.each_once.long, c.loop-activity-test.false, c.loop-activity.auto.activity-index-end) in
    let treated = subst (λ (i : ℕ). Treated p c.args.case.now answers c.loop-activity.places i) all inv.treated in
    record {
      answers = inv.answers;
      evaluated = (subst (λ (v : Valuation). Tells p c.args.case.now v c.new.result) (treated_all p (looks_of f) (ranks_of f) c.args.case.now answers c.loop-activity.places treated) c.new.ensures, inv.busy);
      one_evaluation = one_of f;
      by_rank = by_rank_of f;
      looks_back = looks_of f;
      by_readings = readings_of f;
    }
