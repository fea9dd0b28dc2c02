-- The value of a reading.
use Rattle.std.specs.Prelude.{ℕ, Bool, false, cond, List, [], ◌∷◌, map, ℤ, Some, Option, ◌==◌}
use Rattle.values.specs.declared.container.Container.{Container}
use Rattle.values.specs.Layout.{field_at}
use Rattle.grammar.specs.Symbols.{Operand, field, number}
use Rattle.grammar.specs.Grammar.{Kind, transition, join, Test, compares, status, Tree, constant, test, negation, conjunction, disjunction}
use Rattle.conditions.specs.declared.ground.Ground.{Ground}
use Rattle.conditions.specs.declared.ground.Ground.TheVariants as grounds
use Rattle.conditions.specs.declared.ground.Incoming.{Incoming}
use Rattle.conditions.specs.Truths.{Truth, of_bool, negated, both, either, amount_of, compared}

-- the value of a tree, where the values of its tests are given
abbrev pub value : (Test → Truth) → Tree → Truth
value tests (constant b) = of_bool b
value tests (test x) = tests x
value tests (negation t) = negated (value tests t)
value tests (conjunction a b) = both (value tests a) (value tests b)
value tests (disjunction a b) = either (value tests a) (value tests b)

-- a field of the output, or a number
abbrev pub side_of : Container → Operand → Option ℤ
side_of c (field k) = amount_of (field_at c k)
side_of c (number z) = Some z

-- in a transition text a test compares two operands over a container
abbrev pub over_output : Container → Test → Truth
over_output c (compares x s y) = compared s (side_of c x) (side_of c y)
over_output c (status n) = of_bool false

-- the status of the first of these links with that number
abbrev pub status_of : List Incoming → ℕ → Bool
status_of [] n = false
status_of (l ∷ ls) n = cond (n == l.link) l.status (status_of ls n)

-- in a join text a test is the status of a link
abbrev pub over_statuses : List Incoming → Test → Truth
over_statuses ls (compares x s y) = of_bool false
over_statuses ls (status n) = of_bool (status_of ls n)

abbrev pub links_of : List Incoming → List ℕ
links_of ls = map (λ (l : Incoming). l.link) ls

abbrev pub kind_of : Ground → Kind
kind_of (grounds.Transition c) = transition
kind_of (grounds.Join ls) = join (links_of ls.now)

abbrev pub tests_of : Ground → Test → Truth
tests_of (grounds.Transition c) = over_output c
tests_of (grounds.Join ls) = over_statuses ls.now
