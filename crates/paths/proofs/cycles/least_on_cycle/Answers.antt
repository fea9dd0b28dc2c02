use Rattle.std.proofs.Common.{◌≡◌, ◌∙◌, ap, subst, rules, arith}
use borrow.Author.Tests.{tests}
use Rattle.std.specs.Range.{range_inclusive_start, range_inclusive_end, range_inclusive_exhausted}
use Rattle.std.specs.Iterator.Runs.{ItemsCountUp}
use Rattle.std.proofs.iter.runs.Sources.{inclusive_listed}
use Rattle.paths.proofs.Found.{first_on_cycle}
use Rattle.paths.proofs.cycles.least_on_cycle.Goals as goal

pub returns : goal.returns
returns c =
    let found = c.find.ensures.runs in
    let u = found.0 in
    let taken = c.take.ensures.runs u u.seen found.1 in
    let q = taken.1.0 in
    let listed = inclusive_listed q q.seen in
    let start : listed.0 ≡ 0 = listed.2 ∙ ap range_inclusive_start taken.1.1 ∙ c.new.ensures.start in
    let end : listed.1 ≡ 256 = omega (arith, listed.3, ap range_inclusive_end taken.1.1, c.new.ensures.end) in
    let up = (listed.4 (ap range_inclusive_exhausted taken.1.1 ∙ c.new.ensures.exhausted)).0 in
    first_on_cycle c.args.links.now c.args.count u q taken.1.2.0 taken.0 taken.1.2.1 (subst (λ b. ItemsCountUp q 0 b) end (subst (λ a. ItemsCountUp q a listed.1) start up)) _ _ (λ a r f h. search rules) (λ x h. search (rules, tests)) (λ x h. search (rules, tests)) c.find.result found.2
