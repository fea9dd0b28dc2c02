-- Where symbols stop being a condition, when each has its place in a text.
use Rattle.std.specs.Prelude.{◌≡◌, ℕ, List, [], ◌∷◌, ◌++◌, map}
use Rattle.grammar.specs.Symbols.{Symbol}
use Rattle.grammar.specs.Grammar.{Kind, Tree, condition, Reads}
use Rattle.grammar.specs.Viable.{Continues}

-- a symbol and the place of its first byte
abbrev pub Located : Type 0
Located = ℕ × Symbol

abbrev pub symbols : List Located → List Symbol
symbols ts = map (λ (t : Located). t.1) ts

-- at this place stands the first symbol with which no condition can go on
pub record AtSymbol (k : Kind) (ts : List Located) (place : ℕ) : Type 0 where
  pub before : List Located
  pub here : Symbol
  pub after : List Located
  pub split : ts ≡ before ++ (place, here) ∷ after
  pub goes : Continues k (symbols before)
  pub stops : Continues k (symbols before ++ here ∷ []) → ⊥

-- all the symbols can go on, and are no condition yet
pub record Unfinished (k : Kind) (ts : List Symbol) : Type 0 where
  pub goes : Continues k ts
  pub not_yet : (t : Tree) → Reads k condition ts t → ⊥

-- the place of a text's fault, where end is the text's length
pub data FaultAt (k : Kind) (end : ℕ) (ts : List Located) (place : ℕ) : Type 0 where
  at_symbol : AtSymbol k ts place → FaultAt k end ts place
  at_end : place ≡ end → Unfinished k (symbols ts) → FaultAt k end ts place

-- a condition has no fault, and what has one has one alone
pub record OneFault : Type 0 where
  pub same : (k : Kind) (end : ℕ) (ts : List Located) (p q : ℕ) → FaultAt k end ts p → FaultAt k end ts q → p ≡ q
  pub none : (k : Kind) (end : ℕ) (ts : List Located) (t : Tree) (p : ℕ) → Reads k condition (symbols ts) t → FaultAt k end ts p → ⊥
