use Rattle.path_tables.proofs.Rows.{empty_rows}
use Rattle.path_tables.proofs.pairs.ActivityPairs.none.Goals as goal

pub returns : goal.returns
returns c = empty_rows 32 c.empty.result c.empty.ensures
