use Rattle.std.proofs.Common.{◌≡◌, sym, ◌∙◌, subst, rules, tests}
use Rattle.std.proofs.lemmas.Iterator.{YieldsList-from_slice}
use Rattle.std.proofs.lemmas.Iterator.Search.{find_from_yields_List}
use Rattle.tables.specs.Answers.{applies}
use Rattle.tables.specs.Tables.{rows_of, first_fitting, ByFirstFit}
use Rattle.tables.proofs.FirstFits.{by_first}
use Rattle.tables.proofs.table.RuleTable.first_fitting.Goals as goal

pub returns : goal.returns
returns c =
    let rows = rows_of c.args.self.now in
    let o = c.args.operation in
    let x = c.args.input.now in
    let value : c.copied.result ≡ first_fitting o x rows = c.copied.ensures ∙ find_from_yields_List (applies o x) _ _ c.find.result c.find.ensures.ran (YieldsList-from_slice rows cc) (λ r b q k. search (rules, tests)) in
    record { value = value; says = subst (ByFirstFit rows o x) (sym value) (by_first rows o x) }
