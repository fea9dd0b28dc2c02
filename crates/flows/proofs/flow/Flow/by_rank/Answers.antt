use Rattle.std.proofs.Common.{sym, ◌∙◌, subst}
use Rattle.path_laws.specs.Ranks.{Ranks}
use Rattle.path_laws.proofs.Orders.{one_order, paths_lead_forward, worked_out}
use Rattle.flows.specs.Flows.{flow_parts}
use Rattle.flows.proofs.Ranked.{in_order}
use Rattle.flows.proofs.flow.Flow.by_rank.Goals as goal

pub returns-clause-ranks : goal.returns-clause-ranks
returns-clause-ranks c =
    let flow = c.args.self.now in
    subst (Ranks _ (flow_parts flow).links) (sym flow.ranked ∙ sym c.as_slice.ensures) (in_order (flow_parts flow) flow.keeps_all)

pub returns-clause-one : goal.returns-clause-one
returns-clause-one c = one_order _ _

pub returns-clause-forward : goal.returns-clause-forward
returns-clause-forward c = paths_lead_forward _ _

pub returns-clause-worked_out : goal.returns-clause-worked_out
returns-clause-worked_out c = worked_out _ _
