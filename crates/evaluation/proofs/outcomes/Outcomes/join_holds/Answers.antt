use Rattle.std.proofs.Common.{ap, ◌∙◌, subst, rules}
use Rattle.lists.specs.Lists.{items}
use Rattle.grammar.specs.Grammar.{join}
use Rattle.conditions.specs.Texts.{text_bytes, Weighed}
use Rattle.conditions.specs.Values.{links_of, over_statuses}
use Rattle.rules.specs.Rules.{into}
use Rattle.evaluation_laws.specs.Evaluations.{statuses}
use Rattle.evaluation.specs.Flows.{flow_plan, valuation_of}
use Rattle.evaluation.proofs.Places.{listed_links, listed_statuses}
use Rattle.evaluation.proofs.Weighing.{join_weighed}
use Rattle.evaluation.proofs.outcomes.Outcomes.join_holds.Goals as goal

pub returns : goal.returns
returns c =
    let f = c.args.self.now.flow.now in
    let a = c.args.activity in
    let s = statuses (flow_plan f) (valuation_of c.args.self.now.places.now) in
    let list = c.unwrap-incoming.result in
    let t = c.unwrap-text.result in
    c.unwrap_or.ensures
    ∙ join_weighed f a s (items list) c.join.result t c.weigh_join.result
    (listed_links c.links-links.result.now a c.incoming.result list c.unwrap-incoming.ensures c.incoming.ensures.links ∙ ap (λ ls. into 0 ls a) c.links-links.ensures)
    (listed_statuses _ s (λ k b h. search rules) c.incoming.result list c.unwrap-incoming.ensures c.incoming.ensures.statuses)
    c.unwrap-text.ensures c.join.ensures
    (subst (λ xs. Weighed (join (links_of xs)) (over_statuses xs) (text_bytes t) c.weigh_join.result) c.as_slice.ensures c.weigh_join.ensures)
