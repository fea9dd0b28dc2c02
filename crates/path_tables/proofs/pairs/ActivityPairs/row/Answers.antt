use Rattle.std.proofs.Common.{◌≡◌, get_or, ap, ◌∙◌, rules}
use Rattle.std.proofs.lemmas.Option.{unwrap_or-slice_get}
use Rattle.path_tables.specs.Sets.{has}
use Rattle.path_tables.proofs.Rows.{read_row}
use Rattle.path_tables.proofs.pairs.ActivityPairs.row.Goals as goal

pub returns : goal.returns
returns c b =
    let rows = c.args.self.now.rows in
    let read : c.unwrap_or.result ≡ get_or rows c.args.first c.empty.result = search (rules, unwrap_or-slice_get) in
    ap (λ s. has s b) read ∙ read_row rows c.args.first c.empty.result c.empty.ensures b
