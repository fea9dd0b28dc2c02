-- What the parts of the parser promise each other. Nothing here is part of a public promise.
use Rattle.std.specs.Prelude.{◌≡◌, ℕ, ◌<◌, ◌≤◌, Bool, true, false, ◌⊎◌, List, [], ◌∷◌, length, Some, None, Ok, Err, Option, Result, ◌≢◌}
use Rattle.grammar.specs.Symbols.{Symbol as Spoken, bad}
use Rattle.grammar.specs.Grammar.{Kind, Level, factor, Test, member}
use Rattle.grammar.specs.Faults.{Located}
use Rattle.grammar.specs.Parsing.{Done, Failed, is_closing}
use Rattle.tokens.specs.declared.fault.Fault.{Fault}
use Rattle.tokens.specs.declared.symbol.Symbol.{Symbol}
use Rattle.tokens.specs.declared.symbol.Symbol.TheVariants.{Close}
use Rattle.tokens.specs.Following.{text_of, to_come}
use Rattle.tokens.specs.Symbols.{meaning, side}
use Rattle.tokens.specs.declared.symbol.Operand.{Operand}
use Rattle.values.specs.declared.amount.Comparison.{Comparison}
use Rattle.grammar.specs.Symbols as g
use Rattle.conditions.specs.declared.ground.Ground.{Ground}
use Rattle.conditions.specs.declared.ground.Incoming.{Incoming}
use Rattle.conditions.specs.declared.parser.Parser.{Parser}
use Rattle.conditions.specs.Truths.{Truth}
use Rattle.conditions.specs.Values.{value, status_of, links_of, kind_of, tests_of}

abbrev pub rest_by : ℕ → Option Symbol → List Located → List Located
rest_by place None after = after
rest_by place (Some s) after = (place, meaning s) ∷ after

-- the symbols after a factor
abbrev pub rest : Parser → List Located
rest p = rest_by p.ahead.place p.ahead.symbol (to_come p.lexer)

-- at the end nothing is to come, and the place is the text's length
abbrev pub ReadyBy : ℕ → ℕ → Option Symbol → List Located → Type 0
ReadyBy end place None after = (after ≡ []) × (place ≡ end)
ReadyBy end place (Some s) after = Unit {0}

abbrev pub end_of : Parser → ℕ
end_of p = length (text_of p.lexer)

abbrev pub Ready : Parser → Type 0
Ready p = ReadyBy (end_of p) p.ahead.place p.ahead.symbol (to_come p.lexer)

abbrev pub headed : (Spoken → Bool) → Option Symbol → Bool
headed f None = false
headed f (Some s) = f (meaning s)

pub record Kept (p q : Parser) : Type 0 where
  pub text_is : text_of q.lexer ≡ text_of p.lexer
  pub ground_is : q.ground ≡ p.ground

-- what is said of a step of the parser, which leaves its text and its ground as they are
pub record Step (p q : Parser) (Said : Type 0) : Type 0 where
  pub kept : Kept p q
  pub says : Said

abbrev pub TookNext : Parser → Result (Unit {0}) Fault → Parser → Type 0
TookNext p (Ok u) q = (rest q ≡ to_come p.lexer) × Ready q × (length (to_come q.lexer) ≤ length (to_come p.lexer))
TookNext p (Err f) q = to_come p.lexer ≡ (f.place, bad) ∷ to_come q.lexer

abbrev pub Advanced : Parser → Result (Unit {0}) Fault → Parser → Type 0
Advanced p r q = Step p q (TookNext p r q)

-- a part of this level was read from before, or it stops there
pub record Read (k : Kind) (tests : Test → Truth) (l : Level) (before : List Located) (v : Truth) (q : Parser) : Type 0 where
  pub done : Done k l (λ t. v ≡ value tests t) before (rest q)
  pub ready : Ready q
  pub shorter : length (to_come q.lexer) < length before

abbrev pub ParsedFrom : Kind → (Test → Truth) → Level → ℕ → List Located → Result Truth Fault → Parser → Type 0
ParsedFrom k tests l end before (Ok v) q = Read k tests l before v q
ParsedFrom k tests l end before (Err f) q = Failed k l end before f.place

abbrev pub Parsed : Level → Parser → Result Truth Fault → Parser → Type 0
Parsed l p r q = Step p q (ParsedFrom (kind_of p.ground) (tests_of p.ground) l (end_of p) (to_come p.lexer) r q)

-- a new parser has the whole text before it
pub record Begun (text : List ℕ) (ground : Ground) (p : Parser) : Type 0 where
  pub text_is : text_of p.lexer ≡ text
  pub place_is : p.lexer.place ≡ 0
  pub ground_is : p.ground ≡ ground

-- the status of a link that is among some, or none
abbrev pub StatusIs : Bool → Bool → Option Bool → Type 0
StatusIs among status None = among ≡ false
StatusIs among status (Some b) = (among ≡ true) × (b ≡ status)

-- the status of an incoming link
abbrev pub Looks : List Incoming → ℕ → Option Bool → Type 0
Looks ls n o = StatusIs (member n (links_of ls)) (status_of ls n) o

abbrev pub SignIs : Symbol → Option Comparison → Type 0
SignIs s None = (c : Comparison) → meaning s ≢ g.sign c
SignIs s (Some c) = meaning s ≡ g.sign c

abbrev pub OperandIs : Symbol → Option Operand → Type 0
OperandIs s None = (x : g.Operand) → meaning s ≢ g.operand x
OperandIs s (Some x) = meaning s ≡ g.operand (side x)

-- what comes first at this place is bad or nothing by a reading of symbols, or it is the end
abbrev pub Unread : {X : Type 0} → (Symbol → Option X → Type 0) → ℕ → List Located → ℕ → Type 0
Unread reads end [] place = place ≡ end
Unread reads end (t ∷ ts) place = (place ≡ t.0) × ((t.1 ≡ bad) ⊎ ((s : Symbol) × (t.1 ≡ meaning s) × reads s None))

-- the next symbol was read as this, or it cannot be
abbrev pub NextBy : {X : Type 0} → (Symbol → Option X → Type 0) → Parser → Result X Fault → Parser → Type 0
NextBy reads p (Ok x) q = (at : ℕ) × (s : Symbol) × (to_come p.lexer ≡ (at, meaning s) ∷ to_come q.lexer) × reads s (Some x)
NextBy reads p (Err f) q = Unread reads (end_of p) (to_come p.lexer) f.place

abbrev pub NextIs : {X : Type 0} → (Symbol → Option X → Type 0) → Parser → Result X Fault → Parser → Type 0
NextIs reads p r q = Step p q (NextBy reads p r q)

-- a factor whose first symbol was read at this place
abbrev pub ParsedAt : Parser → ℕ → Spoken → Result Truth Fault → Parser → Type 0
ParsedAt p at s r q = Step p q (ParsedFrom (kind_of p.ground) (tests_of p.ground) factor (end_of p) ((at, s) ∷ to_come p.lexer) r q)

-- a parenthesis was ahead and what follows it is ahead now, or it stops at what is ahead, or after it
abbrev pub ClosedBy : Parser → Truth → Result Truth Fault → Parser → Type 0
ClosedBy p v (Ok w) q = (w ≡ v) × (p.ahead.symbol ≡ Some Close) × TookNext p (Ok tt) q
ClosedBy p v (Err f) q = ((headed is_closing p.ahead.symbol ≡ false) × (f.place ≡ p.ahead.place)) ⊎ ((p.ahead.symbol ≡ Some Close) × TookNext p (Err f) q)

abbrev pub Closed : Parser → Truth → Result Truth Fault → Parser → Type 0
Closed p v r q = Step p q (ClosedBy p v r q)

abbrev pub Ended : Parser → Result (Unit {0}) Fault → Type 0
Ended p (Ok u) = p.ahead.symbol ≡ None
Ended p (Err f) = (s : Symbol) × (p.ahead.symbol ≡ Some s) × (f.place ≡ p.ahead.place)
