-- Parts that keep all rules have a rank order, the one worked out.
use Rattle.std.proofs.Common.{length, subst}
use Rattle.layout.specs.Layout.{Parts}
use Rattle.path_laws.specs.Paths.{EndsBelow, NoCycle}
use Rattle.path_laws.specs.Ranks.{Ranks, rank_order}
use Rattle.path_laws.proofs.NeverStuck.{order_exists}
use Rattle.path_laws.proofs.Orders.{worked_out}
use Rattle.rules.specs.declared.refusal.RuleRefusal.TheVariants.{Cycle}
use Rattle.rules.specs.Rules.{KeepsAll}
use Rattle.rules.proofs.Ends.{ends_below}

pub ends_kept : (p : Parts) → KeepsAll p → EndsBelow p.links (length p.activities)
ends_kept p keeps = ends_below p (λ d before. keeps d)

pub no_cycle : (p : Parts) → KeepsAll p → NoCycle p.links (length p.activities)
no_cycle p keeps a h r = keeps (Cycle a) (h, r)

pub in_order : (p : Parts) → KeepsAll p → Ranks (length p.activities) p.links (rank_order (length p.activities) p.links)
in_order p keeps =
    let n = length p.activities in
    let order = order_exists n p.links (ends_kept p keeps) (no_cycle p keeps) in
    subst (Ranks n p.links) ((worked_out n p.links).only order.0 order.1) order.1
