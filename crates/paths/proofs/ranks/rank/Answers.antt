use Rattle.std.proofs.Common.{◌≡◌, ℕ, List, [], ◌∷◌, ◌++◌, inr, arith, rules}
use Rattle.lists.specs.Lists.{items}
use Rattle.path_laws.specs.Ranks.{Ranks}
use Rattle.path_laws.proofs.Free.{kept_none, kept_more, kept_ranks, none_free}
use Rattle.path_laws.proofs.NeverStuck.{order_exists}
use Rattle.path_laws.proofs.Orders.{one_order, paths_lead_forward}
use Rattle.paths.proofs.ranks.rank.Goals as goal
use Rattle.paths.proofs.ranks.rank.Goals.{In_err-next}

pub returns-then-count-gt32-clause-one : goal.returns-then-count-gt32-clause-one
returns-then-count-gt32-clause-one c = one_order c.args.count c.args.links.now

pub returns-then-count-gt32-clause-forward : goal.returns-then-count-gt32-clause-forward
returns-then-count-gt32-clause-forward c = paths_lead_forward c.args.count c.args.links.now

pub loop-init : goal.loop-init
loop-init c = rw (c.none-ranked.ensures, c.new-order.ensures) (kept_none c.args.count c.args.links.now)

-- where none is free, there is no order
none : (c : In_err-next) → (order : List ℕ) → Ranks c.args.count c.args.links.now order → ⊥
none c = none_free c.args.count c.args.links.now c.loop.ranked.marks (items c.loop.order) c.loop.counter (omega arith) c.loop.invariant c.in_err-next.ensures

pub returns-in_err-next-clause-answer : goal.returns-in_err-next-clause-answer
returns-in_err-next-clause-answer c = rw c.from_residual.ensures (inr (none (goal.at.returns-in_err-next-clause-answer c).In_err-next))

pub returns-in_err-next-clause-some : goal.returns-in_err-next-clause-some
returns-in_err-next-clause-some c few ends no_cycle =
    let order = order_exists c.args.count c.args.links.now ends no_cycle in
    absurd (none (goal.at.returns-in_err-next-clause-some c).In_err-next order.0 order.1)

pub returns-in_err-next-clause-one : goal.returns-in_err-next-clause-one
returns-in_err-next-clause-one c = one_order c.args.count c.args.links.now

pub returns-in_err-next-clause-forward : goal.returns-in_err-next-clause-forward
returns-in_err-next-clause-forward c = paths_lead_forward c.args.count c.args.links.now

pub loop-preserved : goal.loop-preserved
loop-preserved c =
    let longer : items c.push.new.self ≡ items c.loop.order ++ c.in_ok-next.next ∷ [] = search rules in
    rw (c.add.ensures, longer) (kept_more c.args.count c.args.links.now c.loop.ranked.marks (items c.loop.order) c.loop.counter c.in_ok-next.next (omega arith) c.loop.invariant c.in_ok-next.ensures)

pub returns-clause-answer : goal.returns-clause-answer
returns-clause-answer c =
    let all : c.loop.counter ≡ c.args.count = omega arith in
    rw c.new.ensures (kept_ranks c.args.count c.args.links.now c.loop.ranked.marks (items c.loop.order) (rw all at c.loop.invariant))

pub returns-clause-one : goal.returns-clause-one
returns-clause-one c = one_order c.args.count c.args.links.now

pub returns-clause-forward : goal.returns-clause-forward
returns-clause-forward c = paths_lead_forward c.args.count c.args.links.now
