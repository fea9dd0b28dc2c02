-- Inputs, put together field by field, and what connectors name.
use Rattle.std.proofs.Common.{◌≡◌, ℕ, ◌+◌, ◌-◌, ◌<◌, true, cond, ◌&&◌, eqb, List, length, get_or, drop, set, map, reverse, is_ok, Ok, Err, Result, inl, inr, sym, refl, ap, ◌∙◌, subst, ⊎_elim, zero-add, arith}
use Rattle.std.specs.List.{range_with_len}
use Rattle.std.proofs.lemmas.List.{drop_more, get_or-set_same, get_or-set_other, get_or_default, get_or-reverse, length-reverse, ext_get_or}
use Rattle.std.proofs.lemmas.List.FromFn.{get_or-map-range_with_len}
use Rattle.std.proofs.lemmas.Bool.{cases_eq, cases_lt, cond-true, cond-false, eq-eqb, ne_eqb}
use Rattle.values.specs.declared.container.Container.{Container}
use Rattle.values.specs.declared.field.Field.{Field}
use Rattle.values.specs.declared.field.Field.TheVariants.{Blank}
use Rattle.values.specs.Layout.{field_at}
use Rattle.values.specs.Same.{same_container}
use Rattle.parts.specs.declared.Connector.{Connector}
use Rattle.parts.specs.declared.ConnectorKind.{ConnectorKind}
use Rattle.parts.specs.declared.ConnectorKind.TheVariants.{Case, Output}
use Rattle.parts.specs.declared.UnknownKind.{UnknownKind}
use Rattle.parts.specs.Kinds.{HasKind}
use Rattle.layout.specs.Layout.{Parts}
use Rattle.layout.specs.Drafts.{zero_connector}
use Rattle.rules.specs.declared.refusal.RuleRefusal.TheVariants.{BadConnector}
use Rattle.rules.specs.Rules.{KeepsAll, Named, Sourced, connector_at}
use Rattle.flows.specs.declared.flow.Flow.{Flow}
use Rattle.flows.specs.Flows.{flow_parts}
use Rattle.plans.specs.Plans.{taken_field, leads_to, input_field, input_value}

-- the fields so far are those that the last n connectors give
abbrev pub Fields : List Connector → ℕ → ℕ → Container → (ℕ → Container) → Container → Type 0
Fields cs n a the_case outputs input = (k : ℕ) → k < 8 → field_at input k ≡ input_field (drop (length cs - n) cs) a k the_case outputs

-- x is met after n others, where they are gone through from the last on
abbrev pub Met : List Connector → ℕ → Connector → Type 0
Met cs n x = (n < length (reverse cs)) × (x ≡ get_or (reverse cs) n x)

met_at : (cs : List Connector) (n : ℕ) (x : Connector) → Met cs n x → (n < length cs) × (x ≡ connector_at cs (length cs - 1 - n))
met_at cs n x m =
    let h : n < length cs = omega (arith, m.0, length-reverse cs) in
    (h, m.1 ∙ get_or-reverse cs n x h ∙ get_or_default cs (length cs - 1 - n) x zero_connector (omega arith))

module _ (cs : List Connector) (a : ℕ) (the_case : Container) (outputs : ℕ → Container) (n m : ℕ) (x : Connector) (met : Met cs n x) (more : m ≡ n + 1) where
  field_more : (k : ℕ) → input_field (drop (length cs - m) cs) a k the_case outputs ≡ cond (leads_to x a k) (taken_field x the_case outputs) (input_field (drop (length cs - n) cs) a k the_case outputs)
  field_more k =
      let at = met_at cs n x met in
      let i = length cs - 1 - n in
      let here : length cs - m ≡ i = omega (arith, at.0) in
      let next : i + 1 ≡ length cs - n = omega (arith, at.0) in
      ap (λ (j : ℕ). input_field (drop j cs) a k the_case outputs) here
      ∙ ap (λ xs. input_field xs a k the_case outputs) (drop_more cs i zero_connector (omega (arith, at.0)))
      ∙ (λ j. cond (leads_to (sym at.1 j) a k) (taken_field (sym at.1 j) the_case outputs) (input_field (drop (next j) cs) a k the_case outputs))

  pub fields_pass : (input : Container) → (x.target ≡ a → ⊥) → Fields cs n a the_case outputs input → Fields cs m a the_case outputs input
  fields_pass input other f k l = f k l ∙ sym (field_more k ∙ cond-false (leads_to x a k) _ _ (ap (λ b. b && eqb x.target_field k) (ne_eqb x.target a other)))

  pub fields_set : (input next : Container) → x.target ≡ a → next.fields ≡ set input.fields x.target_field (taken_field x the_case outputs) → Fields cs n a the_case outputs input → Fields cs m a the_case outputs next
  fields_set input next here e f k l =
      let new = taken_field x the_case outputs in
      let leads : leads_to x a k ≡ eqb x.target_field k = ap (λ b. b && eqb x.target_field k) (eq-eqb x.target a here) in
      ap (λ fs. get_or fs k Blank) e
      ∙ ⊎_elim
      (λ eq.
      subst (λ (j : ℕ). get_or (set input.fields j new) k Blank ≡ new) eq (get_or-set_same input.fields k new Blank (omega (arith, input.eight)))
      ∙ sym (field_more k ∙ cond-true (leads_to x a k) _ _ (leads ∙ eq-eqb x.target_field k (sym eq))))
      (λ ne.
      get_or-set_other input.fields x.target_field k new Blank ne
      ∙ f k l
      ∙ sym (field_more k ∙ cond-false (leads_to x a k) _ _ (leads ∙ ne_eqb x.target_field k (λ q. ne (sym q)))))
      (cases_eq k x.target_field)

pub fields_all : (p : Parts) (a n : ℕ) (the_case : Container) (outputs : ℕ → Container) (input : Container) → n ≡ length (reverse p.connectors) → Fields p.connectors n a the_case outputs input → input ≡ input_value p a the_case outputs
unfolding input_value
fields_all p a n the_case outputs input all f =
    let given : ℕ → Field = λ k. input_field p.connectors a k the_case outputs in
    let none : length p.connectors - n ≡ 0 = omega (arith, all, length-reverse p.connectors) in
    same_container input (input_value p a the_case outputs)
    (ext_get_or Blank input.fields (map given (range_with_len 0 8)) input.eight (λ k h.
    let l : k < 8 = omega (arith, input.eight) in
    f k l ∙ ap (λ (j : ℕ). input_field (drop j p.connectors) a k the_case outputs) none ∙ sym (get_or-map-range_with_len given 0 8 k k Blank l (zero-add k))))

below : (n m : ℕ) → ((n < m → ⊥) → ⊥) → n < m
below n m deny = ⊎_elim (λ l. l) (λ ge. absurd (deny (λ l. omega arith))) (cases_lt n m)

same : (n m : ℕ) → ((n ≡ m → ⊥) → ⊥) → n ≡ m
same n m deny = ⊎_elim (λ e. e) (λ ne. absurd (deny ne)) (cases_eq n m)

-- what a connector names is there
connector_named : (p : Parts) → KeepsAll p → (i : ℕ) → i < length p.connectors → Named (length p.activities) (connector_at p.connectors i)
connector_named p keeps i h =
    let c = connector_at p.connectors i in
    let n = length p.activities in
    let bad : (Named n c → ⊥) → ⊥ = λ deny. keeps (BadConnector i) (h, λ good. deny good.named) in
    record {
      target_is = below _ _ (λ deny. bad (λ good. deny good.target_is));
      target_field_is = below _ _ (λ deny. bad (λ good. deny good.target_field_is));
      source_field_is = below _ _ (λ deny. bad (λ good. deny good.source_field_is));
      sourced = ⊎_elim
          (λ one. inl (one, same _ _ (λ deny. bad (λ good. ⊎_elim (λ a. deny a.1) (λ b. omega (arith, one, b.0)) good.sourced))))
          (λ other. inr (
            same _ _ (λ deny. bad (λ good. ⊎_elim (λ a. other a.0) (λ b. deny b.0) good.sourced)),
            below _ _ (λ deny. bad (λ good. ⊎_elim (λ a. other a.0) (λ b. deny b.1) good.sourced)),
          ))
          (cases_eq c.kind 1);
    }

pub met_named : (f : Flow) (n : ℕ) (x : Connector) → Met (flow_parts f).connectors n x → Named (length (flow_parts f).activities) x
met_named f n x m =
    let at = met_at (flow_parts f).connectors n x m in
    subst (Named (length (flow_parts f).activities)) (sym at.1) (connector_named (flow_parts f) f.keeps_all _ (omega (arith, at.0)))

-- the kind of a connector that keeps its rules is known
pub kind_known : (n : ℕ) (c : Connector) (r : Result ConnectorKind UnknownKind) → Sourced n c → HasKind c.kind r → is_ok r ≡ true
kind_known n c (Ok k) s h = refl
kind_known n c (Err e) s h = absurd (⊎_elim (λ one. h.1 Case (sym one.0)) (λ two. h.1 Output (sym two.0)) s)
