use Rattle.std.proofs.Common.{arith}
use Rattle.partners.proofs.Shares.{answered, all_busy}
use Rattle.partners.proofs.retry.calls.RetryPartner.call.Goals as goal

pub returns-in_default : goal.returns-in_default
returns-in_default g c =
    let i = c.loop.invariant in
    rw i.0 (answered _ _ _ _ _ _ _ _ _ _ _ (omega (arith, c.args.self.now.some)) i.1 (omega (arith, i.2)) c.in_default.not-Busy c.call.ensures)

pub returns : goal.returns
returns g c =
    let i = c.loop.invariant in
    rw i.0 (all_busy _ _ _ _ _ _ _ _ (omega (arith, c.args.self.now.some)) i.1 (omega (arith, i.2, c.loop-test.false)) (i.3 (omega (arith, c.args.self.now.some, c.loop-test.false))))
