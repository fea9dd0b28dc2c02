-- The rule of one activity: the outcome it gives, and what it looks at.
use Rattle.std.proofs.Common.{◌≡◌, ℕ, true, cond, sym, refl, ap, ◌∙◌, subst, ⊎_elim}
use Rattle.std.proofs.lemmas.Bool.{cases_Bool, cond-true, cond-false}
use Rattle.values.specs.declared.container.Container.{Container}
use Rattle.partners.specs.Answers.{Answer, Answers, gives, faults}
use Rattle.path_laws.specs.Paths.{Reaches, by_link}
use Rattle.evaluation_laws.specs.declared.Outcome.{Outcome}
use Rattle.evaluation_laws.specs.declared.Outcome.TheVariants.{Skipped, Completed, Faulted}
use Rattle.evaluation_laws.specs.Plans.{Plan, source_of, LooksBack}
use Rattle.evaluation_laws.specs.Evaluations.{Valuation, outputs, output_of, statuses, taken, joins, input_of, answer_to, Rule, by_join, by_output, by_fault, answered, ruled}

module _ (p : Plan) (the_case : Container) (answers : Answers) where
  answer_rules : (v : Valuation) (a : ℕ) (x : Answer) → joins p v a ≡ true → answer_to p the_case answers v a ≡ x → Rule p the_case answers v a (answered x)
  answer_rules v a (gives c) j e = by_output j e
  answer_rules v a (faults f) j e = by_fault j e

  -- the rule gives this outcome
  pub rule_ruled : (v : Valuation) (a : ℕ) → Rule p the_case answers v a (ruled p the_case answers v a)
  rule_ruled v a =
      ⊎_elim
      (λ t. subst (Rule p the_case answers v a) (sym (cond-true (joins p v a) _ _ t)) (answer_rules v a (answer_to p the_case answers v a) t refl))
      (λ f. subst (Rule p the_case answers v a) (sym (cond-false (joins p v a) _ _ f)) (by_join f))
      (cases_Bool (joins p v a))

  -- and no other
  pub ruled_only : (v : Valuation) (a : ℕ) (o : Outcome) → Rule p the_case answers v a o → o ≡ ruled p the_case answers v a
  ruled_only v a Skipped (by_join j) = sym (cond-false (joins p v a) _ _ j)
  ruled_only v a (Completed c) (by_output j e) = sym (cond-true (joins p v a) _ _ j ∙ ap answered e)
  ruled_only v a (Faulted f) (by_fault j e) = sym (cond-true (joins p v a) _ _ j ∙ ap answered e)

  -- the rule of an activity looks at activities that reach it only
  pub ruled_looks : LooksBack p → (v w : Valuation) (a : ℕ) → ((b : ℕ) → Reaches p.links b a → v b ≡ w b) → ruled p the_case answers v a ≡ ruled p the_case answers w a
  ruled_looks looks v w a same =
      let join_same : joins p v a ≡ joins p w a =
      looks.join_looks a (statuses p v) (statuses p w) (λ l i. ap (taken p l) (same (source_of p l) (by_link (record { number = l; within = i.0; source_is = refl; target_is = i.1 })))) in
      let input_same : input_of p the_case v a ≡ input_of p the_case w a =
      looks.input_looks a the_case (outputs p v) (outputs p w) (λ b r. ap (output_of p b) (same b r)) in
      λ i. cond (join_same i) (answered (answers (p.operation a) (input_same i))) Skipped
