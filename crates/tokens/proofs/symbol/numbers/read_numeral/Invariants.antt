use Rattle.std.proofs.Common.{◌≡◌, ◌^◌, ◌<◌, drop}
use Rattle.tokens.specs.Words.{decimal, all_digits}
use Rattle.tokens.proofs.symbol.numbers.read_numeral.Given as goal

abbrev pub invariant-loop-b : goal.invariant-loop-b
invariant-loop-b l = (l.n < 10 ^ l.b-index) × (decimal l.n (drop l.b-index l.digits) ≡ decimal 0 l.digits) × (all_digits (drop l.b-index l.digits) ≡ all_digits l.digits)
