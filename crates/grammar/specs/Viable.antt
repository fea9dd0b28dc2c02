-- How far symbols can go on to a condition.
use Rattle.std.specs.Prelude.{◌≡◌, List, ◌++◌}
use Rattle.grammar.specs.Symbols.{Symbol}
use Rattle.grammar.specs.Grammar.{Kind, Tree, condition, Reads}

-- some symbols more make them a condition
pub record Continues (k : Kind) (ts : List Symbol) : Type 0 where
  pub more : List Symbol
  pub tree : Tree
  pub reads : Reads k condition (ts ++ more) tree

-- every list of symbols has at most one reading
abbrev pub OneReading : Type 0
OneReading = (k : Kind) (ts : List Symbol) (t u : Tree) → Reads k condition ts t → Reads k condition ts u → t ≡ u
