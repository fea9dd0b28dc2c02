-- Outcomes put in their places by rank are those of the evaluation.
use Rattle.std.proofs.Common.{◌≡◌, ℕ, zero, suc, ◌+◌, ◌<◌, ◌≤◌, false, List, map, length, get_or, take, set, ◌+ℤ◌, sym, refl, ap, ◌∙◌, ⊎_elim, zero-add, arith}
use Rattle.std.specs.List.{range_with_len}
use Rattle.std.proofs.lemmas.List.{get_or-set_same, get_or-set_other, get_or-take, length-take-le}
use Rattle.std.proofs.lemmas.List.FromFn.{length-map-range_with_len, get_or-map-range_with_len}
use Rattle.std.proofs.lemmas.Simd.{map-map}
use Rattle.std.proofs.lemmas.Bool.{cases_eq}
use Rattle.lists.specs.Lists.{items}
use Rattle.values.specs.declared.container.Container.{Container}
use Rattle.partners.specs.Answers.{Answers}
use Rattle.evaluation_laws.specs.declared.Outcome.{Outcome}
use Rattle.evaluation_laws.specs.declared.Outcome.TheVariants.{Skipped}
use Rattle.evaluation_laws.specs.Plans.{Plan, LooksBack, Ranked, order_of}
use Rattle.evaluation_laws.specs.Evaluations.{Valuation, OneEvaluation, ByRank, no_output, ruled, statuses, with_outcome, evaluated, charged, charge_below, charge_of}
use Rattle.evaluation_laws.proofs.Evaluations.{one_evaluation, by_rank, after, after_more, all_after, with_here, with_other}
use Rattle.flows.specs.declared.flow.Flow.{Flow}
use Rattle.flows.specs.Flows.{flow_parts}
use Rattle.plans.specs.Plans.{ByReadings}
use Rattle.plans.proofs.Plans.{looks_back, has_ranks, by_readings}
use Rattle.evaluation.specs.declared.evaluated.EvaluatedActivity.{EvaluatedActivity}
use Rattle.evaluation.specs.declared.evaluated.Evaluated.{Evaluated}
use Rattle.evaluation.specs.Flows.{flow_plan, valuation_of}
use Rattle.evaluation.specs.Evaluated.{outcomes_of, inputs_of, given_input, evaluated_activity, Tells}

-- the first i by rank have their outcomes
abbrev pub Treated : Plan → Container → Answers → List Outcome → ℕ → Type 0
Treated p the_case answers outcomes i = (a : ℕ) → valuation_of outcomes a ≡ after p the_case answers i a

module _ (p : Plan) (looks : LooksBack p) (ranked : Ranked p) (the_case : Container) (answers : Answers) (outcomes : List Outcome) where
  pub treated_more : (i x : ℕ) (o : Outcome) → i < p.count → x ≡ get_or (order_of p) i 0 → x < length outcomes → o ≡ ruled p the_case answers (valuation_of outcomes) x → Treated p the_case answers outcomes i → Treated p the_case answers (set outcomes x o) (i + 1)
  treated_more i x o h is within e t a =
      let v = after p the_case answers i in
      let next : after p the_case answers (i + 1) a ≡ with_outcome v x (ruled p the_case answers v x) a =
      ap (λ (w : Valuation). w a) (after_more p the_case answers looks ranked i h) ∙ ap (λ (y : ℕ). with_outcome v y (ruled p the_case answers v y) a) (sym is) in
      let same : o ≡ ruled p the_case answers v x = e ∙ (λ j. ruled p the_case answers (λ b. t b j) x) in
      ⊎_elim
      (λ eq. ap (λ (b : ℕ). get_or (set outcomes x o) b Skipped) eq ∙ get_or-set_same outcomes x o Skipped within ∙ same ∙ sym (next ∙ with_here v x a _ eq))
      (λ ne. get_or-set_other outcomes x a o Skipped ne ∙ t a ∙ sym (next ∙ with_other v x a _ ne))
      (cases_eq a x)

  pub treated_all : Treated p the_case answers outcomes p.count → valuation_of outcomes ≡ evaluated p the_case answers
  treated_all t = (λ j a. t a j) ∙ all_after p the_case answers looks ranked

-- what holds of every flow's plan
module _ (f : Flow) where
  pub looks_of : LooksBack (flow_plan f)
  looks_of = looks_back (flow_parts f) f.keeps_all

  pub ranks_of : Ranked (flow_plan f)
  ranks_of = has_ranks (flow_parts f) f.keeps_all

  pub one_of : OneEvaluation (flow_plan f)
  one_of = one_evaluation (flow_plan f) looks_of ranks_of

  pub by_rank_of : ByRank (flow_plan f)
  by_rank_of = by_rank (flow_plan f) looks_of ranks_of

  pub readings_of : ByReadings (flow_parts f)
  readings_of = by_readings (flow_parts f)

-- what has these activities and statuses tells the valuation
pub tells : (p : Plan) (the_case : Container) (v : Valuation) (e : Evaluated) → items e.activities ≡ map (evaluated_activity p the_case v) (range_with_len 0 p.count) → items e.statuses ≡ map (statuses p v) (range_with_len 0 (length p.links)) → e.charge ≡ charge_of p v → Tells p the_case v e
tells p the_case v e activities listed charge =
    let n = p.count in
    let m = length p.links in
    let numbers = range_with_len 0 n in
    let given : ℕ → Container = given_input p the_case v in
    let outs : outcomes_of e ≡ map v numbers = ap (λ xs. map (λ (a : EvaluatedActivity). a.outcome) xs) activities ∙ map-map (λ (a : EvaluatedActivity). a.outcome) (evaluated_activity p the_case v) numbers in
    let ins : inputs_of e ≡ map given numbers = ap (λ xs. map (λ (a : EvaluatedActivity). a.input) xs) activities ∙ map-map (λ (a : EvaluatedActivity). a.input) (evaluated_activity p the_case v) numbers in
    record {
      outcomes_long = ap length outs ∙ length-map-range_with_len v 0 n;
      inputs_long = ap length ins ∙ length-map-range_with_len given 0 n;
      statuses_long = ap length listed ∙ length-map-range_with_len (statuses p v) 0 m;
      outcomes_are = λ a h. ap (λ xs. get_or xs a Skipped) outs ∙ get_or-map-range_with_len v 0 n a a Skipped h (zero-add a);
      inputs_are = λ a h. ap (λ xs. get_or xs a no_output) ins ∙ get_or-map-range_with_len given 0 n a a no_output h (zero-add a);
      statuses_are = λ l h. ap (λ xs. get_or xs l false) listed ∙ get_or-map-range_with_len (statuses p v) 0 m l l false h (zero-add l);
      charge_is = charge;
    }

-- the charge goes by the outcomes of those activities alone
charge_same : (n : ℕ) (v w : Valuation) → ((a : ℕ) → a < n → v a ≡ w a) → charge_below n v ≡ charge_below n w
charge_same zero v w same = refl
charge_same (suc n) v w same = (λ i. charge_same n v w (λ a h. same a (omega arith)) i +ℤ charged (same n (omega arith) i))

pub charge_taken : (n k : ℕ) (places : List Outcome) → k ≡ n → n ≤ length places → charge_below (length (take k places)) (valuation_of (take k places)) ≡ charge_below n (valuation_of places)
charge_taken n k places e h =
    let long : length (take k places) ≡ n = omega (arith, length-take-le k places (omega arith)) in
    ap (λ (m : ℕ). charge_below m (valuation_of (take k places))) long ∙ charge_same n (valuation_of (take k places)) (valuation_of places) (λ a l. get_or-take k places a Skipped (omega arith))
