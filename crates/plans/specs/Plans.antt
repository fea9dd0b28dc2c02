-- The plan of a flow's parts: joins and transitions by the readings of their texts, inputs by the connectors.
use Rattle.std.specs.Prelude.{◌≡◌, ℕ, ◌+◌, Bool, cond, ◌&&◌, List, [], ◌∷◌, length, ◌==◌, slice_index_or, refl}
use Rattle.values.specs.declared.container.Container.{Container}
use Rattle.values.specs.declared.field.Field.{Field}
use Rattle.values.specs.declared.field.Field.TheVariants.{Blank}
use Rattle.values.specs.Layout.{field_at}
use Rattle.grammar.specs.Grammar.{Tree, transition, join}
use Rattle.conditions.specs.Texts.{Reading}
use Rattle.conditions.specs.Truths.{holds}
use Rattle.conditions.specs.Values.{value, over_output}
use Rattle.readings.specs.Readings.{reading_of, holding, by_status}
use Rattle.parts.specs.declared.Connector.{Connector}
use Rattle.layout.specs.Layout.{Parts}
use Rattle.rules.specs.Rules.{activity_at, into}
use Rattle.evaluation_laws.specs.Plans.{Plan}

-- text l of the texts is the transition of link l
abbrev pub transition_text : Parts → ℕ → List ℕ
transition_text p l = slice_index_or p.texts l []

-- the texts past the links are the joins of the activities
abbrev pub join_text : Parts → ℕ → List ℕ
join_text p a = slice_index_or p.texts (length p.links + a) []

abbrev pub incoming : Parts → ℕ → List ℕ
incoming p a = into 0 p.links a

unfoldable pub transition_value : Parts → ℕ → Container → Bool
transition_value p l c = holding (reading_of transition (transition_text p l)) (over_output c)

unfoldable pub join_value : Parts → ℕ → (ℕ → Bool) → Bool
join_value p a s = holding (reading_of (join (incoming p a)) (join_text p a)) (by_status s)

-- what a connector takes: a field of the case, or of the output of its source
abbrev pub taken_field : Connector → Container → (ℕ → Container) → Field
taken_field c the_case outputs = cond (c.kind == 1) (field_at the_case c.source_field) (field_at (outputs c.source) c.source_field)

abbrev pub leads_to : Connector → ℕ → ℕ → Bool
leads_to c a k = c.target == a && c.target_field == k

-- field k of the input of activity a: what its connector takes, or blank where it has none
abbrev pub input_field : List Connector → ℕ → ℕ → Container → (ℕ → Container) → Field
input_field [] a k the_case outputs = Blank
input_field (c ∷ cs) a k the_case outputs = cond (leads_to c a k) (taken_field c the_case outputs) (input_field cs a k the_case outputs)

unfoldable pub input_value : Parts → ℕ → Container → (ℕ → Container) → Container
input_value p a the_case outputs =
    let f : ℕ → Field = λ k. input_field p.connectors a k the_case outputs in
    record { fields = f 0 ∷ f 1 ∷ f 2 ∷ f 3 ∷ f 4 ∷ f 5 ∷ f 6 ∷ f 7 ∷ []; eight = refl }

abbrev pub plan_of : Parts → Plan
plan_of p = record {
  count = length p.activities;
  links = p.links;
  operation = λ a. (activity_at p.activities a).operation;
  join = join_value p;
  transition = transition_value p;
  input = input_value p;
}

-- the joins and transitions of the plan are the values of the readings of their texts
pub record ByReadings (p : Parts) : Type 0 where
  pub transitions : (l : ℕ) (c : Container) (t : Tree) → Reading transition (transition_text p l) t → (plan_of p).transition l c ≡ holds (value (over_output c) t)
  pub joins : (a : ℕ) (s : ℕ → Bool) (t : Tree) → Reading (join (incoming p a)) (join_text p a) t → (plan_of p).join a s ≡ holds (value (by_status s) t)
