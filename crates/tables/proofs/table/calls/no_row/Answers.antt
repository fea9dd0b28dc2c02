use Rattle.std.proofs.Common.{◌≡◌}
use Rattle.std.proofs.lemmas.Option.{MatchOption-at_some}
use Rattle.partners.specs.Answers.{fault_code}
use Rattle.partners.proofs.Same.{same_fault}
use Rattle.tables.specs.Tables.{no_row_fault}
use Rattle.tables.proofs.table.calls.no_row.Goals as goal

pub returns : goal.returns
returns c = same_fault c.unwrap.result no_row_fault (MatchOption-at_some _ (λ f. fault_code f ≡ 1) _ c.unwrap.ensures c.new.ensures)
