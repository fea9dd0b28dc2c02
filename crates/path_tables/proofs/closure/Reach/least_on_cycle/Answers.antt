use Rattle.std.proofs.Common.{◌≡◌, true, rules}
use borrow.Author.Tests.{tests}
use Rattle.std.proofs.lemmas.Iterator.{first_from_Range}
use Rattle.path_tables.specs.Reaching.{reached}
use Rattle.path_tables.proofs.Found.{least_found}
use Rattle.path_tables.proofs.closure.Reach.least_on_cycle.Goals as goal

pub returns : goal.returns
returns c =
    let reach = c.args.self.now in
    let found = first_from_Range (record { start = 0; end = c.min.result }) _ _ c.find.result (λ a. reached reach a a ≡ true) (λ a. reached reach a a ≡ true → ⊥) c.find.ensures.ran (λ x q h. search (rules, tests)) (λ x q h. search (rules, tests)) in
    least_found reach c.args.count c.min.result (search rules) c.find.result found
