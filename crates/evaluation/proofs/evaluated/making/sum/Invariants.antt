use Rattle.std.proofs.Common.{◌≡◌, ◌*◌, pos, ◌+ℤ◌, ◌≤ℤ◌}
use Rattle.evaluation_laws.specs.Evaluations.{charge_below}
use Rattle.evaluation.specs.Flows.{valuation_of}
use Rattle.evaluation.proofs.evaluated.making.sum.Given as goal

abbrev pub invariant-loop-outcome : goal.invariant-loop-outcome
invariant-loop-outcome l = (l.sum ≡ charge_below l.outcome-index (valuation_of l.outcomes)) × (l.sum ≤ℤ pos (1_000_000_000_000 * l.outcome-index)) × (pos 0 ≤ℤ (l.sum +ℤ pos (1_000_000_000_000 * l.outcome-index)))
