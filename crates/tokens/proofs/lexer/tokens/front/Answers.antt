use Rattle.std.proofs.Common.{◌<◌, length, ap, ◌∙◌, arith, length-drop, rules}
use Rattle.std.proofs.lemmas.List.{take_rest}
use Rattle.tokens.specs.Tokens.{run}
use Rattle.tokens.proofs.lexer.tokens.front.Goals as goal

pub minus-requires : goal.minus-requires
minus-requires c =
    let some : 0 < length c.args.rest.now = search rules in
    let rest = take_rest c.args.rest.now 1 in
    record {
      first = omega arith;
      word = c.run_length.ensures.run ∙ ap run rest;
      within = omega (arith, c.run_length.ensures.within, ap length rest, length-drop 1 c.args.rest.now);
    }
