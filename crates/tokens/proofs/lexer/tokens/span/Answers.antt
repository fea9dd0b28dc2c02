use Rattle.std.proofs.Common.{◌∙◌}
use Rattle.std.proofs.lemmas.Iterator.{YieldsList-from_slice}
use Rattle.std.proofs.lemmas.Iterator.Consumers.{YieldsList-at, YieldsList-from_copied, count_from_yields_List}
use Rattle.std.proofs.lemmas.Iterator.Search.{YieldsList-from_take_while}
use Rattle.std.proofs.lemmas.List.Folds.{length-prefix_len}
use Rattle.tokens.proofs.Spans.{span_prefix}
use Rattle.tokens.proofs.lexer.tokens.span.Goals as goal

pub returns-clause-run : goal.returns-clause-run
returns-clause-run g c = λ f acts.
    let bs = c.args.bytes.now in
    count_from_yields_List _ _ c.count.ensures.ran
    (YieldsList-from_take_while _ f (YieldsList-at c.take_while.ensures.source (YieldsList-from_copied (YieldsList-at c.copied.ensures.source (YieldsList-from_slice bs cc)))) c.take_while.ensures.closure c.take_while.ensures.done acts)
    ∙ length-prefix_len f bs ∙ span_prefix f bs
