use Rattle.std.proofs.Common.{◌≡◌, ◌+◌, ◌<◌, ◌≤◌}
use Rattle.partners.specs.Calls.{EightBlanks}
use Rattle.partners.proofs.retry.calls.RetryPartner.call.Given as goal

-- each try so far was busy below
abbrev pub invariant-loop : goal.invariant-loop
invariant-loop g l =
    let p = g.P.Partner in
    (l.self.tries ≡ l.initial.self.tries)
    × (p.answers l.self.below ≡ p.answers l.initial.self.below)
    × (p.busy l.self.below + l.counter ≤ p.busy l.initial.self.below)
    × (0 < l.counter → EightBlanks l.output)
