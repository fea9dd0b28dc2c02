-- A flow's plan looks only where it may, has ranks, and goes by the readings of the texts.
use Rattle.std.proofs.Common.{◌≡◌, ℕ, ◌<◌, true, false, cond, ◌&&◌, eqb, ◌⊎◌, List, [], ◌∷◌, length, sym, refl, ap, ◌∙◌, subst, inl, inr, ⊎_elim}
use Rattle.std.specs.List.{AllByRecursion}
use Rattle.std.proofs.ByRecursion.{All-from_get_or}
use Rattle.std.proofs.lemmas.Bool.{cases_Bool, cond-true, cond-false, eqb-true, eq-eqb, both_ways}
use Rattle.values.specs.declared.container.Container.{Container}
use Rattle.values.specs.Layout.{field_at}
use Rattle.grammar.specs.Grammar.{join, transition}
use Rattle.conditions.specs.Truths.{of_bool}
use Rattle.conditions.specs.Values.{over_output}
use Rattle.readings.specs.Readings.{holding, by_status}
use Rattle.readings.proofs.Forward.{read_worked_out}
use Rattle.readings.proofs.Values.{same_holding}
use Rattle.parts.specs.declared.Connector.{Connector}
use Rattle.layout.specs.Layout.{Parts}
use Rattle.path_laws.specs.Paths.{Reaches}
use Rattle.path_laws.proofs.Decided.{reaches_or_not}
use Rattle.rules.specs.declared.refusal.RuleRefusal.TheVariants.{BadConnector, NoPath}
use Rattle.rules.specs.Rules.{KeepsAll, connector_at}
use Rattle.flows.proofs.Ranked.{ends_kept, in_order}
use Rattle.evaluation_laws.specs.Plans.{LooksBack, Ranked}
use Rattle.plans.specs.Plans.{incoming, transition_text, join_text, transition_value, join_value, taken_field, leads_to, input_field, input_value, plan_of, ByReadings}
use Rattle.plans.proofs.Members.{into_leads}

-- a connector takes a field of the case, or of the output of an activity that reaches its target
abbrev Sound : Parts → Connector → Type 0
Sound p c = (eqb c.kind 1 ≡ true) ⊎ Reaches p.links c.source c.target

connector_sound : (p : Parts) → KeepsAll p → (i : ℕ) → i < length p.connectors → Sound p (connector_at p.connectors i)
connector_sound p keeps i h =
    let c = connector_at p.connectors i in
    ⊎_elim
    (λ t. inl t)
    (λ f. ⊎_elim inr (λ no. absurd (keeps (BadConnector i) (
      h,
      λ good. ⊎_elim
          (λ one. both_ways _ f (eq-eqb c.kind 1 one.0))
          (λ two. keeps (NoPath i) (h, two.0, no))
          good.named.sourced,
    ))) (reaches_or_not p.links (length p.activities) (ends_kept p keeps) c.source c.target))
    (cases_Bool (eqb c.kind 1))

module _ (p : Parts) (a k : ℕ) (the_case : Container) (o q : ℕ → Container) (same : (b : ℕ) → Reaches p.links b a → o b ≡ q b) where
  taken_same : (c : Connector) → Sound p c → c.target ≡ a → taken_field c the_case o ≡ taken_field c the_case q
  taken_same c (inl t) e = cond-true (eqb c.kind 1) _ _ t ∙ sym (cond-true (eqb c.kind 1) _ _ t)
  taken_same c (inr r) e = ap (λ (x : Container). cond (eqb c.kind 1) (field_at the_case c.source_field) (field_at x c.source_field)) (same c.source (subst (Reaches p.links c.source) e r))

  fields_same : (cs : List Connector) → AllByRecursion (Sound p) cs → input_field cs a k the_case o ≡ input_field cs a k the_case q
  fields_same [] s = refl
  fields_same (c ∷ cs) s =
      ⊎_elim
      (λ t.
      let hit : leads_to c a k ≡ eqb c.target_field k = ap (λ b. b && eqb c.target_field k) t in
      λ i. cond (leads_to c a k) (taken_same c s.0 (eqb-true c.target a t) i) (fields_same cs s.1 i))
      (λ f.
      let miss : leads_to c a k ≡ false = ap (λ b. b && eqb c.target_field k) f in
      cond-false (leads_to c a k) _ _ miss ∙ fields_same cs s.1 ∙ sym (cond-false (leads_to c a k) _ _ miss))
      (cases_Bool (eqb c.target a))

pub looks_back : (p : Parts) → KeepsAll p → LooksBack (plan_of p)
unfolding join_value input_value
looks_back p keeps = record {
  join_looks = λ a s t same. same_holding (join (incoming p a)) (by_status s) (by_status t) (λ l m. ap of_bool (same l (into_leads p.links a l m))) (join_text p a);
  input_looks = λ a the_case o q same.
      let all = All-from_get_or (Sound p) p.connectors (record { target = 0; target_field = 0; kind = 0; source = 0; source_field = 0 }) (connector_sound p keeps) in
      let f : (k : ℕ) → input_field p.connectors a k the_case o ≡ input_field p.connectors a k the_case q = λ k. fields_same p a k the_case o q same p.connectors all in
      λ i. record { fields = f 0 i ∷ f 1 i ∷ f 2 i ∷ f 3 i ∷ f 4 i ∷ f 5 i ∷ f 6 i ∷ f 7 i ∷ []; eight = refl };
}

pub has_ranks : (p : Parts) → KeepsAll p → Ranked (plan_of p)
has_ranks p keeps = in_order p keeps

pub by_readings : (p : Parts) → ByReadings p
unfolding join_value transition_value
by_readings p = record {
  transitions = λ l c t r. ap (λ x. holding x (over_output c)) (read_worked_out transition (transition_text p l) t r);
  joins = λ a s t r. ap (λ x. holding x (by_status s)) (read_worked_out (join (incoming p a)) (join_text p a) t r);
}
