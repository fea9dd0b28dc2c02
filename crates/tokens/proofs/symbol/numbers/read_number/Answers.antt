use Rattle.std.proofs.Common.{◌≡◌, ℕ, List, get_or, drop, None, Option, sym, ap, ◌∙◌, arith}
use Rattle.std.proofs.lemmas.List.{take_rest}
use Rattle.std.proofs.lemmas.Bool.{cond-true, eq-eqb}
use Rattle.std.specs.Option.{option_map}
use Rattle.values.specs.Amounts.{size}
use Rattle.tokens.specs.Words.{number, minus, numeral}
use Rattle.tokens.proofs.symbol.numbers.read_number.Goals as goal

with_minus : (w rest : List ℕ) (o : Option ℕ) → get_or w 0 0 ≡ 45 → rest ≡ drop 1 w → o ≡ numeral 12 rest → minus o ≡ number w
with_minus w rest o first e is = ap minus (is ∙ ap (numeral 12) e) ∙ sym (cond-true _ _ _ (eq-eqb _ 45 first))

pub returns-in_err-read_numeral-in-45 : goal.returns-in_err-read_numeral-in-45
returns-in_err-read_numeral-in-45 c =
    let first : get_or c.args.part.now 0 0 ≡ 45 = omega arith in
    ap (option_map size) c.from_residual.ensures ∙ with_minus c.args.part.now _ None first (take_rest c.args.part.now 1) c.in_err-read_numeral-in-45.ensures.value

pub returns-in_ok-read_numeral-in-45 : goal.returns-in_ok-read_numeral-in-45
returns-in_ok-read_numeral-in-45 c =
    let first : get_or c.args.part.now 0 0 ≡ 45 = omega arith in
    c.negative.ensures ∙ with_minus c.args.part.now _ _ first (take_rest c.args.part.now 1) c.in_ok-read_numeral-in-45.ensures.value
