-- Condition texts: their readings, their faults, and what checking and weighing them answer.
use Rattle.std.specs.Prelude.{◌≡◌, ℕ, Bool, List, length, Ok, Err, Result}
use Rattle.lists.specs.Lists.{items}
use Rattle.grammar.specs.Grammar.{Kind, Test, Tree, condition, Reads}
use Rattle.grammar.specs.Faults.{FaultAt, symbols}
use Rattle.tokens.specs.declared.fault.Fault.{Fault}
use Rattle.tokens.specs.Following.{symbols_of}
use Rattle.conditions.specs.declared.text.Text.{Text}
use Rattle.conditions.specs.Truths.{Truth, holds}
use Rattle.conditions.specs.Values.{value}

abbrev pub text_bytes : Text → List ℕ
text_bytes t = items t.bytes

-- these bytes read as this tree
abbrev pub Reading : Kind → List ℕ → Tree → Type 0
Reading k text t = Reads k condition (symbols (symbols_of text)) t

-- at this place stands the first token with which no condition can go on, or the text ends too early
abbrev pub FaultPlace : Kind → List ℕ → ℕ → Type 0
FaultPlace k text place = FaultAt k (length text) (symbols_of text) place

-- the text has a reading, and the answer says whether its value holds
pub record Holding (k : Kind) (tests : Test → Truth) (text : List ℕ) (answer : Bool) : Type 0 where
  pub tree : Tree
  pub reads : Reading k text tree
  pub answer_is : answer ≡ holds (value tests tree)

abbrev pub Weighed : Kind → (Test → Truth) → List ℕ → Result Bool Fault → Type 0
Weighed k tests text (Ok b) = Holding k tests text b
Weighed k tests text (Err f) = FaultPlace k text f.place

abbrev pub Checked : Kind → List ℕ → Result (Unit {0}) Fault → Type 0
Checked k text (Ok u) = (t : Tree) × Reading k text t
Checked k text (Err f) = FaultPlace k text f.place

-- every text has at most one reading
abbrev pub OneReading : List ℕ → Type 0
OneReading text = (k : Kind) (t u : Tree) → Reading k text t → Reading k text u → t ≡ u

-- a text has a reading or a fault at one place, and not both
pub record OneVerdict (text : List ℕ) : Type 0 where
  pub one_fault : (k : Kind) (p q : ℕ) → FaultPlace k text p → FaultPlace k text q → p ≡ q
  pub not_both : (k : Kind) (t : Tree) (p : ℕ) → Reading k text t → FaultPlace k text p → ⊥
