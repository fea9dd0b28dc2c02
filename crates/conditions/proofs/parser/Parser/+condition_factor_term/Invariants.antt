use Rattle.std.proofs.Common.{◌≡◌, ◌+◌, ◌*◌, ◌≤◌, false, length}
use Rattle.grammar.specs.Grammar.{condition, term}
use Rattle.grammar.specs.Parsing.{heads, is_and}
use Rattle.grammar.proofs.Joins.{Grown}
use Rattle.tokens.specs.Following.{to_come}
use Rattle.conditions.specs.Steps.{Kept, Ready, rest}
use Rattle.conditions.specs.Values.{value, kind_of, tests_of}
use Rattle.conditions.proofs.parser.Parser.+condition_factor_term.Given as goal

abbrev pub decreases-condition : goal.decreases-condition
decreases-condition l = 3 * length (to_come l.self.now.lexer) + 2

abbrev pub decreases-factor : goal.decreases-factor
decreases-factor l = 3 * length (to_come l.self.now.lexer)

abbrev pub decreases-term : goal.decreases-term
decreases-term l = 3 * length (to_come l.self.now.lexer) + 1

-- the terms read so far, and the symbol after them
abbrev pub invariant-condition-loop-self : goal.invariant-condition-loop-self
invariant-condition-loop-self l =
    Kept l.initial.self l.self
    × (length (to_come l.self.lexer) ≤ length (to_come l.initial.self.lexer))
    × Grown (kind_of l.initial.self.ground) condition (value (tests_of l.initial.self.ground)) (rest l.initial.self) (rest l.self) l.initial.value l.value
    × (heads is_and (rest l.self) ≡ false)
    × Ready l.self

abbrev pub decreases-condition-loop-self : goal.decreases-condition-loop-self
decreases-condition-loop-self l = length (to_come l.self.lexer)

-- the factors read so far, and the symbol after them
abbrev pub invariant-term-loop-self : goal.invariant-term-loop-self
invariant-term-loop-self l =
    Kept l.initial.self l.self
    × (length (to_come l.self.lexer) ≤ length (to_come l.initial.self.lexer))
    × Grown (kind_of l.initial.self.ground) term (value (tests_of l.initial.self.ground)) (rest l.initial.self) (rest l.self) l.initial.value l.value
    × Ready l.self

abbrev pub decreases-term-loop-self : goal.decreases-term-loop-self
decreases-term-loop-self l = length (to_come l.self.lexer)
