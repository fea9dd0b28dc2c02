-- What a flow holds, and what reading one answers.
use Rattle.std.specs.Prelude.{◌≡◌, ℕ, List, length, take, drop, Ok, Err, Result}
use Rattle.layout.specs.Layout.{Parts}
use Rattle.paths.specs.Rankings.{order_of}
use Rattle.flows.specs.declared.flow.Flow.{Flow}
use Rattle.flows.specs.Drafted.{drafted}
use Rattle.flows.specs.declared.refusal.DefinitionRefusal.{DefinitionRefusal}
use Rattle.flows.specs.Verdicts.{Judged, accepted, refused, Defines}

-- its activities, links, connectors and texts
abbrev pub flow_parts : Flow → Parts
flow_parts f = drafted f.draft

-- its activities by rank
abbrev pub flow_order : Flow → List ℕ
flow_order f = order_of f.ranking

-- the first texts are the links', the others the activities'
abbrev pub transition_texts : Flow → List (List ℕ)
transition_texts f = take (length (flow_parts f).links) (flow_parts f).texts

abbrev pub join_texts : Flow → List (List ℕ)
join_texts f = drop (length (flow_parts f).links) (flow_parts f).texts

-- the flow has become the one that the bytes define, or they are refused and it is as it was
abbrev pub DefinitionRead : List ℕ → Flow → Result (Unit {0}) DefinitionRefusal → Flow → Type 0
DefinitionRead bs before (Ok u) after = Judged bs (accepted (flow_parts after))
DefinitionRead bs before (Err e) after = Judged bs (refused e) × (after ≡ before)

abbrev pub Holds : Parts → Result (Unit {0}) DefinitionRefusal → Flow → Type 0
Holds p (Ok u) after = flow_parts after ≡ p
Holds p (Err e) after = ⊥

-- where the bytes define parts, they are accepted and the flow has these parts
abbrev pub ReadAsWritten : List ℕ → Result (Unit {0}) DefinitionRefusal → Flow → Type 0
ReadAsWritten bs r after = (p : Parts) → Defines bs p → Holds p r after
