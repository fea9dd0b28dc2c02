-- The grammar of conditions: which symbols are a condition, a term or a factor, with their tree.
use Rattle.std.specs.Prelude.{◌≡◌, ℕ, Bool, true, false, ◌||◌, List, [], ◌∷◌, ◌++◌, ◌==◌}
use Rattle.values.specs.declared.amount.Comparison.{Comparison}
use Rattle.grammar.specs.Symbols.{Operand, Symbol, or_word, and_word, not_word, truth_word, opening, closing, operand, sign, link_word}

-- the text of a link, or the join text of an activity with these incoming links
pub data Kind : Type 0 where
  transition : Kind
  join : List ℕ → Kind

abbrev pub member : ℕ → List ℕ → Bool
member n [] = false
member n (l ∷ ls) = n == l || member n ls

pub data Test : Type 0 where
  compares : Operand → Comparison → Operand → Test
  status : ℕ → Test

pub data Tree : Type 0 where
  constant : Bool → Tree
  test : Test → Tree
  negation : Tree → Tree
  conjunction : Tree → Tree → Tree
  disjunction : Tree → Tree → Tree

pub data Level : Type 0 where
  condition : Level
  term : Level
  factor : Level

pub data Reads : Kind → Level → List Symbol → Tree → Type 0 where
  -- a condition is one or more terms joined by or
  one_term : {k : Kind} {ts : List Symbol} {t : Tree} → Reads k term ts t → Reads k condition ts t
  or_term : {k : Kind} {ts us : List Symbol} {a b : Tree} → Reads k condition ts a → Reads k term us b → Reads k condition (ts ++ or_word ∷ us) (disjunction a b)
  -- a term is one or more factors joined by and
  one_factor : {k : Kind} {ts : List Symbol} {t : Tree} → Reads k factor ts t → Reads k term ts t
  and_factor : {k : Kind} {ts us : List Symbol} {a b : Tree} → Reads k term ts a → Reads k factor us b → Reads k term (ts ++ and_word ∷ us) (conjunction a b)
  -- a factor is not before a factor, a condition in parentheses, true, false, or a test
  of_not : {k : Kind} {ts : List Symbol} {t : Tree} → Reads k factor ts t → Reads k factor (not_word ∷ ts) (negation t)
  of_parentheses : {k : Kind} {ts : List Symbol} {t : Tree} → Reads k condition ts t → Reads k factor (opening ∷ (ts ++ closing ∷ [])) t
  of_truth : {k : Kind} {b : Bool} → Reads k factor (truth_word b ∷ []) (constant b)
  -- in a transition text a test is two operands with a sign between
  of_comparison : {x y : Operand} {c : Comparison} → Reads transition factor (operand x ∷ sign c ∷ operand y ∷ []) (test (compares x c y))
  -- in a join text a test is the word of an incoming link
  of_link : {ls : List ℕ} {n : ℕ} → member n ls ≡ true → Reads (join ls) factor (link_word n ∷ []) (test (status n))
