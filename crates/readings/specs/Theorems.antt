-- The worked-out reading is the one that the grammar has, and its value the one that weighing answers.
use Rattle.std.specs.Prelude.{◌≡◌, ℕ, Bool, true, false, List, Some, None, codes}
use Rattle.values.specs.declared.amount.Comparison.{Comparison}
use Rattle.grammar.specs.Symbols.{Operand}
use Rattle.grammar.specs.Grammar.{Kind, transition, join, member, Test, compares, status, Tree, constant, conjunction, disjunction}
use Rattle.conditions.specs.declared.ground.Incoming.{Incoming}
use Rattle.conditions.specs.Truths.{Truth}
use Rattle.conditions.specs.Values.{value, status_of, over_statuses}
use Rattle.conditions.specs.Texts.{Reading, FaultPlace, Holding}
use Rattle.readings.specs.Readings.{reading_of, holding, by_status}

-- what the grammar reads is worked out
abbrev pub ReadWorkedOut : Type 0
ReadWorkedOut = (k : Kind) (text : List ℕ) (t : Tree) → Reading k text t → reading_of k text ≡ Some t

-- and nothing else is
abbrev pub WorkedOutReads : Type 0
WorkedOutReads = (k : Kind) (text : List ℕ) (t : Tree) → reading_of k text ≡ Some t → Reading k text t

-- a text with a fault has no reading to work out
abbrev pub FaultyUnread : Type 0
FaultyUnread = (k : Kind) (text : List ℕ) (place : ℕ) → FaultPlace k text place → reading_of k text ≡ None

-- weighing answers what the worked-out reading holds
abbrev pub HoldingIs : Type 0
HoldingIs = (k : Kind) (tests : Test → Truth) (text : List ℕ) (b : Bool) → Holding k tests text b → b ≡ holding (reading_of k text) tests

-- and what holds worked out is weighed as true
abbrev pub HoldsWeighed : Type 0
HoldsWeighed = (k : Kind) (tests : Test → Truth) (text : List ℕ) → holding (reading_of k text) tests ≡ true → Holding k tests text true

-- two ways to answer tests agree on the tests that a text of this kind can have
abbrev pub Agree : Kind → (Test → Truth) → (Test → Truth) → Type 0
Agree transition f g = (x : Operand) (c : Comparison) (y : Operand) → f (compares x c y) ≡ g (compares x c y)
Agree (join ls) f g = (n : ℕ) → member n ls ≡ true → f (status n) ≡ g (status n)

-- a reading's value goes by those tests alone
abbrev pub SameValue : Type 0
SameValue = (k : Kind) (f g : Test → Truth) → Agree k f g → (text : List ℕ) (t : Tree) → Reading k text t → value f t ≡ value g t

abbrev pub SameHolding : Type 0
SameHolding = (k : Kind) (f g : Test → Truth) → Agree k f g → (text : List ℕ) → holding (reading_of k text) f ≡ holding (reading_of k text) g

-- a join text's goes by the statuses of its links
abbrev pub SameStatuses : Type 0
SameStatuses =
    (ls : List ℕ) (xs : List Incoming) (s : ℕ → Bool) → ((n : ℕ) → member n ls ≡ true → status_of xs n ≡ s n) →
    (text : List ℕ) (t : Tree) → Reading (join ls) text t → value (over_statuses xs) t ≡ value (by_status s) t

abbrev pub JoinHoldingIs : Type 0
JoinHoldingIs =
    (ls : List ℕ) (xs : List Incoming) (s : ℕ → Bool) → ((n : ℕ) → member n ls ≡ true → status_of xs n ≡ s n) →
    (text : List ℕ) (b : Bool) → Holding (join ls) (over_statuses xs) text b → b ≡ holding (reading_of (join ls) text) (by_status s)

abbrev pub OnlyLinks : Type 0
OnlyLinks =
    (ls : List ℕ) (s t : ℕ → Bool) → ((n : ℕ) → member n ls ≡ true → s n ≡ t n) →
    (text : List ℕ) → holding (reading_of (join ls) text) (by_status s) ≡ holding (reading_of (join ls) text) (by_status t)

-- and binds closer than or
abbrev pub AndBeforeOr : Type 0
AndBeforeOr = reading_of transition (codes "true or false and false") ≡ Some (disjunction (constant true) (conjunction (constant false) (constant false)))

pub record ReadingsWorkedOut : Type 0 where
  pub read_worked_out : ReadWorkedOut
  pub worked_out_reads : WorkedOutReads
  pub faulty_unread : FaultyUnread
  pub holding_is : HoldingIs
  pub holds_weighed : HoldsWeighed
  pub same_value : SameValue
  pub same_holding : SameHolding
  pub same_statuses : SameStatuses
  pub join_holding_is : JoinHoldingIs
  pub only_links : OnlyLinks
  pub and_before_or : AndBeforeOr
