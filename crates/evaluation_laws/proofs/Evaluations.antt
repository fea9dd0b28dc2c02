-- There is one evaluation, and treating activities by rank computes it.
use Rattle.std.proofs.Common.{◌≡◌, ℕ, zero, suc, ◌+◌, ◌<◌, ◌≤◌, eqb, List, [], ◌∷◌, ◌++◌, get_or, take, sym, refl, ap, ◌∙◌, subst, ⊎_elim, add-one, arith}
use Rattle.std.proofs.lemmas.List.{take_more, take_all}
use Rattle.std.proofs.lemmas.Bool.{cases_eq, cond-true, cond-false, eq-eqb, ne_eqb}
use Rattle.values.specs.declared.container.Container.{Container}
use Rattle.partners.specs.Answers.{Answers}
use Rattle.path_laws.proofs.Orders.{paths_lead_forward}
use Rattle.evaluation_laws.specs.declared.Outcome.{Outcome}
use Rattle.evaluation_laws.specs.Plans.{Plan, LooksBack, order_of, Ranked}
use Rattle.evaluation_laws.specs.Evaluations.{Valuation, Evaluation, Rule, OneEvaluation, ByRank, ruled, with_outcome, treated, none_treated, evaluated}
use Rattle.evaluation_laws.proofs.Rules.{rule_ruled, ruled_only, ruled_looks}

pub with_here : (v : Valuation) (a b : ℕ) (o : Outcome) → b ≡ a → with_outcome v a o b ≡ o
with_here v a b o e = cond-true (eqb b a) _ _ (eq-eqb b a e)

pub with_other : (v : Valuation) (a b : ℕ) (o : Outcome) → (b ≡ a → ⊥) → with_outcome v a o b ≡ v b
with_other v a b o ne = cond-false (eqb b a) _ _ (ne_eqb b a ne)

module _ (p : Plan) (the_case : Container) (answers : Answers) where
  treated_more : (xs : List ℕ) (a : ℕ) (v : Valuation) → treated p the_case answers (xs ++ a ∷ []) v ≡ with_outcome (treated p the_case answers xs v) a (ruled p the_case answers (treated p the_case answers xs v) a)
  treated_more [] a v = refl
  treated_more (x ∷ xs) a v = treated_more xs a (with_outcome v x (ruled p the_case answers v x))

  -- the valuation when the first i by rank are treated
  abbrev pub after : ℕ → Valuation
  after i = treated p the_case answers (take i (order_of p)) none_treated

  abbrev ranked_at : ℕ → ℕ
  ranked_at i = get_or (order_of p) i 0

  module _ (looks : LooksBack p) (ranked : Ranked p) where
    pub after_more : (i : ℕ) → i < p.count → after (i + 1) ≡ with_outcome (after i) (ranked_at i) (ruled p the_case answers (after i) (ranked_at i))
    after_more i h =
        ap (λ xs. treated p the_case answers xs none_treated) (take_more (order_of p) i 0 (omega (arith, ranked.each_once.long)))
        ∙ treated_more (take i (order_of p)) (ranked_at i) none_treated

    -- what is treated keeps its outcome
    kept : (i j : ℕ) → j < i → i ≤ p.count → after i (ranked_at j) ≡ after (j + 1) (ranked_at j)
    kept zero j l few = absurd (omega arith)
    kept (suc i) j l few =
        ⊎_elim
        (λ e. let n : suc i ≡ j + 1 = omega arith in ap (λ (n : ℕ). after n (ranked_at j)) n)
        (λ ne.
        let step = ap (λ (n : ℕ). after n (ranked_at j)) (sym (add-one i)) ∙ ap (λ (v : Valuation). v (ranked_at j)) (after_more i (omega arith)) in
        step ∙ with_other (after i) (ranked_at i) (ranked_at j) _ (λ e. ranked.each_once.once j i (omega arith) (omega arith) e) ∙ kept i j (omega arith) (omega arith))
        (cases_eq i j)

    -- at its turn an activity gets the outcome of the rule
    at_turn : (j : ℕ) → j < p.count → after (j + 1) (ranked_at j) ≡ ruled p the_case answers (after j) (ranked_at j)
    at_turn j h = ap (λ (v : Valuation). v (ranked_at j)) (after_more j h) ∙ with_here (after j) (ranked_at j) (ranked_at j) _ refl

    -- when i are treated, the rule of those looks at nothing that will still change
    pub turn_stays : (i j : ℕ) → i ≤ p.count → j < i → ruled p the_case answers (after j) (ranked_at j) ≡ ruled p the_case answers (after i) (ranked_at j)
    turn_stays i j few l =
        ruled_looks p the_case answers looks (after j) (after i) (ranked_at j)
        (λ b r.
        let f = paths_lead_forward p.count p.links (order_of p) ranked b (ranked_at j) j (omega arith) refl r in
        let e : ranked_at f.0 ≡ b = f.2 in
        let at_j = kept j f.0 f.1 (omega arith) in
        let at_i = kept i f.0 (omega (arith, f.1)) few in
        ap (after j) (sym e) ∙ at_j ∙ sym at_i ∙ ap (after i) e)

    pub first_ruled : (i j : ℕ) → i ≤ p.count → j < i → after i (ranked_at j) ≡ ruled p the_case answers (after i) (ranked_at j)
    first_ruled i j few l = kept i j l few ∙ at_turn j (omega arith) ∙ turn_stays i j few l

    pub all_after : after p.count ≡ evaluated p the_case answers
    all_after = ap (λ xs. treated p the_case answers xs none_treated) (take_all p.count (order_of p) (omega (arith, ranked.each_once.long)))

    pub evaluates : Evaluation p the_case answers (evaluated p the_case answers)
    evaluates a h =
        let place = ranked.each_once.all a h in
        let k = place.0 in
        let lt : k < p.count = omega (arith, place.1, ranked.each_once.long) in
        let v = evaluated p the_case answers in
        let here : v a ≡ ruled p the_case answers v a =
        subst (λ (x : ℕ). v x ≡ ruled p the_case answers v x) place.2 (subst (λ (w : Valuation). w (ranked_at k) ≡ ruled p the_case answers w (ranked_at k)) all_after (first_ruled p.count k (omega arith) lt)) in
        subst (Rule p the_case answers v a) (sym here) (rule_ruled p the_case answers v a)

    -- two evaluations agree on the first i by rank
    agree : (v w : Valuation) → Evaluation p the_case answers v → Evaluation p the_case answers w → (i : ℕ) → i ≤ p.count → (j : ℕ) → j < i → v (ranked_at j) ≡ w (ranked_at j)
    agree v w e f zero few j l = absurd (omega arith)
    agree v w e f (suc i) few j l =
        let a = ranked_at j in
        let here = ranked.each_once.below j (omega arith) in
        ruled_only p the_case answers v a (v a) (e a here)
        ∙ ruled_looks p the_case answers looks v w a
        (λ b r.
        let m = paths_lead_forward p.count p.links (order_of p) ranked b a j (omega arith) refl r in
        ap v (sym m.2) ∙ agree v w e f i (omega arith) m.0 (omega (arith, m.1)) ∙ ap w m.2)
        ∙ sym (ruled_only p the_case answers w a (w a) (f a here))

pub by_rank : (p : Plan) → LooksBack p → Ranked p → ByRank p
by_rank p looks ranked the_case answers = evaluates p the_case answers looks ranked

pub one_evaluation : (p : Plan) → LooksBack p → Ranked p → OneEvaluation p
one_evaluation p looks ranked the_case answers v w e f a h =
    let place = ranked.each_once.all a h in
    ap v (sym place.2) ∙ agree p the_case answers looks ranked v w e f p.count (omega arith) place.0 (omega (arith, place.1, ranked.each_once.long)) ∙ ap w place.2
