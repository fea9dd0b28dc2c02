use Rattle.std.proofs.Common.{ℕ, ◌<◌, length, get_or}
use Rattle.pools.proofs.held.calls.place_of_least.Given as goal

-- none of those passed comes before the least so far
abbrev pub invariant-loop-i : goal.invariant-loop-i
invariant-loop-i g l = (l.least < length l.items) × ((k : ℕ) (d : _) → k < l.i → g.T.Ordered.before (get_or l.items k d) (get_or l.items l.least d) → ⊥)
