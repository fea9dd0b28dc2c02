use Rattle.std.proofs.Common.{ℕ, ◌^◌, ◌<◌, ◌≤◌, length, arith, rules}
use Rattle.std.proofs.Math.Nat.{pow-le-pow_right}
use Rattle.tokens.proofs.symbol.numbers.read_numeral.Goals as goal

-- so few digits stay below 10^11, and one more below 10^12
few : (n i most len : ℕ) → n < 10 ^ i → i < len → len ≤ most → most ≤ 12 → n < 100_000_000_000
few n i most len a b c d = let h : 10 ^ i ≤ 10 ^ 11 = pow-le-pow_right {n = 10} (omega arith) {i = i} {j = 11} (omega arith) in omega arith

most_under : (n i most len : ℕ) → n < 10 ^ i → i ≤ len → len ≤ most → most ≤ 12 → n < 1_000_000_000_000
most_under n i most len a b c d = let h : 10 ^ i ≤ 10 ^ 12 = pow-le-pow_right {n = 10} (omega arith) {i = i} {j = 12} (omega arith) in omega arith

pub overflow_mul-n : goal.overflow_mul-n
overflow_mul-n c =
    let h = few _ _ c.args.most (length c.args.digits.now) c.loop-b.invariant.0 c.loop-b-test.true c.if-digits-most.false c.requires in
    search rules

pub overflow_add-n : goal.overflow_add-n
overflow_add-n c =
    let h = few _ _ c.args.most (length c.args.digits.now) c.loop-b.invariant.0 c.loop-b-test.true c.if-digits-most.false c.requires in
    search rules

pub returns-clause-bound : goal.returns-clause-bound
returns-clause-bound c = most_under _ _ c.args.most (length c.args.digits.now) c.loop-b.invariant.0 c.loop-b.auto.b-index-end c.if-digits-most.false c.requires
