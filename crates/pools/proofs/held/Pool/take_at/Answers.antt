use Rattle.std.proofs.Common.{◌-◌, take, ap, ◌∙◌, arith, rules}
use Rattle.std.proofs.lemmas.List.{get_or-take, get_or_default, length-take-le}
use Rattle.pools.proofs.Shift.{moved_down}
use Rattle.pools.proofs.held.Pool.take_at.Goals as goal

pub returns-clause-out : goal.returns-clause-out
returns-clause-out g c =
    let p = c.args.self.now in
    record {
      within = omega (arith, length-take-le p.count p.places.now p.within);
      stood = search (rules, get_or-take, get_or_default);
      rest_is = ap (take (p.count - 1)) c.copy_within.ensures.after ∙ moved_down p.places.now c.args.at p.count (omega arith) p.within;
    }
