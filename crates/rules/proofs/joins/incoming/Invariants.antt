use Rattle.std.proofs.Common.{◌≡◌, ◌≤◌, ◌++◌, length, drop}
use Rattle.std.specs.List.{AllByRecursion}
use Rattle.lists.specs.Lists.{items}
use Rattle.conditions.specs.Values.{links_of}
use Rattle.rules.specs.Rules.{into}
use Rattle.rules.proofs.joins.incoming.Given as goal

abbrev pub invariant-loop-k : goal.invariant-loop-k
invariant-loop-k g l = record {
  few : length (items l.list) ≤ l.k;
  listed : links_of (items l.list) ++ into l.k (drop l.k l.links) l.activity ≡ into 0 l.links l.activity;
  statuses : AllByRecursion (λ i. goal.F-post g l.status i.link i.status) (items l.list);
}
