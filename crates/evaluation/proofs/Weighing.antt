-- What weighing a text answers is the value of its worked-out reading.
use Rattle.std.proofs.Common.{◌≡◌, ℕ, ◌<◌, Bool, false, List, [], length, Some, Ok, Err, Option, Result, sym, ap, ◌∙◌, subst}
use Rattle.std.specs.Result.{result_unwrap_or}
use Rattle.std.proofs.lemmas.List.{get_or-take, get_or-drop}
use Rattle.grammar.specs.Grammar.{Kind, Test, transition, join}
use Rattle.tokens.specs.declared.fault.Fault.{Fault}
use Rattle.conditions.specs.declared.text.Text.{Text}
use Rattle.conditions.specs.Truths.{Truth, of_bool}
use Rattle.conditions.specs.declared.ground.Incoming.{Incoming}
use Rattle.conditions.specs.Texts.{text_bytes, Weighed}
use Rattle.conditions.specs.Values.{links_of, over_output, over_statuses}
use Rattle.values.specs.declared.container.Container.{Container}
use Rattle.layout.specs.Drafts.{ElementAt}
use Rattle.flows.specs.declared.flow.Flow.{Flow}
use Rattle.flows.specs.Flows.{flow_parts, transition_texts, join_texts}
use Rattle.plans.specs.Plans.{transition_text, join_text, incoming, transition_value, join_value}
use Rattle.evaluation.specs.Flows.{HaveStatuses}
use Rattle.evaluation.proofs.Places.{status_found}
use Rattle.readings.specs.Readings.{reading_of, holding, by_status}
use Rattle.readings.proofs.Values.{holding_is, faulty_unread, same_holding}

-- a text with a fault holds nowhere
weighed : (k : Kind) (tests : Test → Truth) (text : List ℕ) (r : Result Bool Fault) → Weighed k tests text r → result_unwrap_or r false ≡ holding (reading_of k text) tests
weighed k tests text (Ok b) h = holding_is k tests text b h
weighed k tests text (Err f) h = sym (ap (λ x. holding x tests) (faulty_unread k text f.place h))

-- the text that a flow hands out is the one of its parts
handed : (texts : List (List ℕ)) (i : ℕ) (o : Option Text) (t : Text) → o ≡ Some t → ElementAt text_bytes [] texts i o → ElementAt text_bytes [] texts i (Some t)
handed texts i o t e at = subst (λ (o : Option Text). ElementAt text_bytes [] texts i o) e at

pub transition_weighed : (f : Flow) (l : ℕ) (c : Container) (o : Option Text) (t : Text) (r : Result Bool Fault) → l < length (flow_parts f).links → o ≡ Some t → ElementAt text_bytes [] (transition_texts f) l o → Weighed transition (over_output c) (text_bytes t) r → result_unwrap_or r false ≡ transition_value (flow_parts f) l c
unfolding transition_value
transition_weighed f l c o t r h e at w =
    let is : text_bytes t ≡ transition_text (flow_parts f) l = (handed (transition_texts f) l o t e at).1 ∙ get_or-take (length (flow_parts f).links) (flow_parts f).texts l [] h in
    weighed transition (over_output c) (text_bytes t) r w ∙ ap (λ text. holding (reading_of transition text) (over_output c)) is

-- the join text of an activity over its incoming links with their statuses
pub join_weighed : (f : Flow) (a : ℕ) (s : ℕ → Bool) (xs : List Incoming) (o : Option Text) (t : Text) (r : Result Bool Fault) → links_of xs ≡ incoming (flow_parts f) a → HaveStatuses s xs → o ≡ Some t → ElementAt text_bytes [] (join_texts f) a o → Weighed (join (links_of xs)) (over_statuses xs) (text_bytes t) r → result_unwrap_or r false ≡ join_value (flow_parts f) a s
unfolding join_value
join_weighed f a s xs o t r links have e at w =
    let is : text_bytes t ≡ join_text (flow_parts f) a = (handed (join_texts f) a o t e at).1 ∙ get_or-drop (length (flow_parts f).links) (flow_parts f).texts a [] in
    weighed (join (links_of xs)) (over_statuses xs) (text_bytes t) r w
    ∙ same_holding (join (links_of xs)) (over_statuses xs) (by_status s) (λ n m. ap of_bool (status_found s xs n have m)) (text_bytes t)
    ∙ (λ i. holding (reading_of (join (links i)) (is i)) (by_status s))
