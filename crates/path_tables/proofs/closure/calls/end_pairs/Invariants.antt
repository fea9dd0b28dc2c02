use Rattle.std.proofs.Common.{ℕ, ◌<◌}
use Rattle.path_laws.specs.Paths.{link_at, Leads}
use Rattle.path_laws.specs.Tables.{Collects}
use Rattle.path_tables.specs.Pairs.{paired}
use Rattle.path_tables.proofs.closure.calls.end_pairs.Given as goal

abbrev pub invariant-loop-link : goal.invariant-loop-link
invariant-loop-link l = ((k : ℕ) → k < l.link-index → ((link_at l.links k).source < l.count) × ((link_at l.links k).target < l.count)) × Collects (Leads l.links) l.link-index (paired l.pairs)
