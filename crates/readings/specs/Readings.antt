-- What a condition text comes to, worked out.
use Rattle.std.specs.Prelude.{ℕ, Bool, false, List, [], Some, None, Option}
use Rattle.grammar.specs.Symbols.{Symbol}
use Rattle.grammar.specs.Grammar.{Kind, Test, compares, status, Tree}
use Rattle.grammar.specs.Faults.{symbols}
use Rattle.tokens.specs.Following.{symbols_of}
use Rattle.conditions.specs.Truths.{Truth, of_bool, holds}
use Rattle.conditions.specs.Values.{value}
use Rattle.readings.specs.Stages.{factor_wanted, new_term, read_on, condition_of}

-- the tree that these symbols read as, if they read as one
abbrev pub read_symbols : Kind → List Symbol → Option Tree
read_symbols k ss = condition_of (read_on k (factor_wanted (new_term None) []) ss)

-- the tree that a text reads as, if it reads as one
abbrev pub reading_of : Kind → List ℕ → Option Tree
reading_of k text = read_symbols k (symbols (symbols_of text))

-- whether the value of a reading holds; without a reading nothing does
abbrev pub holding : Option Tree → (Test → Truth) → Bool
holding None tests = false
holding (Some t) tests = holds (value tests t)

-- the tests of a join text, where each link's status is given by its number
abbrev pub by_status : (ℕ → Bool) → Test → Truth
by_status s (compares x c y) = of_bool false
by_status s (status n) = of_bool (s n)
