use Rattle.std.proofs.Common.{◌≡◌, ℕ, subst, arith}
use Rattle.path_laws.proofs.Via.{Tabled, tabled_links, tabled_reaches}
use Rattle.path_tables.specs.Pairs.{paired}
use Rattle.path_tables.proofs.closure.Reach.of.Goals as goal

pub loop-k-init : goal.loop-k-init
loop-k-init c =
    let known = c.in_ok-pairs.ensures in
    tabled_links c.args.links.now c.args.count known.0 (paired c.in_ok-pairs.pairs) known.1

pub returns : goal.returns
returns c =
    let links = c.args.links.now in
    let ends = c.in_ok-pairs.ensures.0 in
    let t = paired c.loop-k.pairs in
    let all : c.loop-k.k ≡ c.args.count = omega arith in
    (omega arith, ends, tabled_reaches links c.args.count ends t (subst (λ (k : ℕ). Tabled links k t) all c.loop-k.invariant))
