-- What the symbols after a part mean for it.
use Rattle.std.proofs.Common.{◌≡◌, ℕ, List, [], ◌∷◌, ◌++◌, Some, None, Ok, Err, Option, Result, refl, ap, ◌∙◌, subst, ⊎_elim, append-nil, arith}
use mathlib.Core.Path.{subst⁻¹}
use Rattle.std.specs.Option.{ok_or}
use Rattle.std.specs.Result.{IsErrAnd, result_ok}
use Rattle.std.proofs.lemmas.Result.{err_from_is_err_and}
use Rattle.grammar.specs.Symbols.{Operand, operand, sign, bad}
use Rattle.grammar.specs.Grammar.{Kind, Level, Tree, Reads}
use Rattle.grammar.specs.Faults.{Located, symbols}
use Rattle.grammar.specs.Parsing.{State, step, dead, Done, Failed, place_of, want}
use Rattle.grammar.proofs.Steps.{feed_from, runs}
use Rattle.grammar.proofs.Joins.{Barred}
use Rattle.tokens.specs.declared.fault.Fault.{Fault}
use Rattle.tokens.specs.declared.lexer.Lexer.{Lexer}
use Rattle.tokens.specs.declared.symbol.Symbol.{Symbol}
use Rattle.tokens.specs.Symbols.{meaning}
use Rattle.tokens.specs.Following.{FollowsBy, text_of}
use Rattle.values.specs.declared.amount.Comparison.{Comparison}
use Rattle.conditions.specs.declared.ground.Ground.{Ground}
use Rattle.conditions.specs.declared.parser.Parser.{Parser}
use Rattle.conditions.specs.Truths.{Truth}
use Rattle.conditions.specs.Values.{kind_of, tests_of}
use Rattle.conditions.specs.Steps.{Kept, Step, ParsedFrom, Read, Unread, end_of}

-- a bad token is neither a sign nor an operand
pub bad_no_sign : ((c : Comparison) × (bad ≡ sign c)) → ⊥
bad_no_sign h = let e = h.1 in let z : ◌≡◌ {A = ℕ} 0 1 = cc in omega arith

pub bad_no_operand : ((x : Operand) × (bad ≡ operand x)) → ⊥
bad_no_operand h = let e = h.1 in let z : ◌≡◌ {A = ℕ} 0 1 = cc in omega arith

-- a part that is followed by a bad token stops there
pub bad_follows : {k : Kind} {l : Level} {end : ℕ} {means : Tree → Type 0} {before after rest : List Located} {place : ℕ} → Done k l means before after → after ≡ (place, bad) ∷ rest → Failed k l end before place
bad_follows {k} {l} {place = place} d e = record {
  used = d.used;
  rest = (place, bad) ∷ _;
  more = [];
  tree = d.tree;
  split = d.split ∙ ap (λ ts. d.used ++ ts) e;
  place = refl;
  goes = subst⁻¹ (λ ts. Reads k l ts d.tree) (append-nil (symbols d.used)) d.reads;
  stops = λ n. feed_from k (want n) (symbols d.used) (bad ∷ []) (runs d.reads n);
}

pub followed : (end : ℕ) {before after : List Located} {place : ℕ} {s : Symbol} (o : Option Symbol) → FollowsBy end before place o after → o ≡ Some s → before ≡ (place, meaning s) ∷ after
followed end {before} {after} {place} o h e = subst (λ x. FollowsBy end before place x after) e h

pub followed_none : (end : ℕ) {before after : List Located} {place : ℕ} (o : Option Symbol) → FollowsBy end before place o after → o ≡ None → (before ≡ []) × (after ≡ []) × (place ≡ end)
followed_none end {before} {after} {place} o h e = subst (λ x. FollowsBy end before place x after) e h

-- what is there is taken
pub found : {X : Type 0} {o : Option X} {r : Result X Fault} {x : X} → o ≡ result_ok r → r ≡ Ok x → o ≡ Some x
found h e = h ∙ ap result_ok e

-- where there is nothing, this is the fault
pub missing : {X : Type 0} (o : Option X) {r : Result X Fault} {f g : Fault} → r ≡ ok_or o f → r ≡ Err g → (o ≡ None) × (f ≡ g)
missing None h e = (refl, cc)
missing (Some x) h e = absurd (cc)

-- the symbol that was taken, by its case
pub took_as : (end : ℕ) {before after : List Located} {place : ℕ} {s x : Symbol} (o : Option Symbol) {r : Result Symbol Fault} → FollowsBy end before place o after → o ≡ result_ok r → r ≡ Ok s → s ≡ x → before ≡ (place, meaning x) ∷ after
took_as end {after = after} {place} o h part was is = followed end o h (found part was) ∙ ap (λ y. (place, meaning y) ∷ after) is

-- where a symbol is nothing by a reading that a state wants, it leads on to nothing
pub unread_barred :
    {X : Type 0} (k : Kind) (reads : Symbol → Option X → Type 0) (s : ℕ → State) → ((x : Symbol) → reads x None → (d : ℕ) → step k (s d) (meaning x) ≡ dead) → ((d : ℕ) → step k (s d) bad ≡ dead) →
    (end : ℕ) (ts : List Located) {place : ℕ} → Unread reads end ts place → Barred k s ts × (place ≡ place_of end ts)
unread_barred k reads s others bads end [] h = (tt, h)
unread_barred k reads s others bads end (t ∷ ts) h =
    (⊎_elim (λ e d. ap (step k (s d)) e ∙ bads d) (λ x d. ap (step k (s d)) x.1 ∙ others x.0 x.2 d) h.1, h.0)

pub kept_same : {p : Parser} → Kept p p
kept_same = record { text_is = refl; ground_is = refl }

pub kept_then : {p q r : Parser} → Kept p q → Kept q r → Kept p r
kept_then a b = record { text_is = b.text_is ∙ a.text_is; ground_is = b.ground_is ∙ a.ground_is }

-- the parser with its lexer moved on
pub kept_lexed : (p : Parser) (l : Lexer) → text_of l ≡ text_of p.lexer → Kept p (record { lexer = l; ground = p.ground; ahead = p.ahead })
kept_lexed p l e = record { text_is = e; ground_is = refl }

-- a fault is handed on
pub failed_on :
    {p q : Parser} {l : Level} {before : List Located} {f : Fault} (r : Result Truth Fault) → IsErrAnd r (λ g. g ≡ f) → Kept p q → Failed (kind_of p.ground) l (end_of p) before f.place →
    Step p q (ParsedFrom (kind_of p.ground) (tests_of p.ground) l (end_of p) before r q)
failed_on {p} {q} {l} {before} {f} r e k h =
    let x = err_from_is_err_and {Q = λ g. g ≡ f} r e in record { kept = k; says = subst⁻¹ (λ y. ParsedFrom (kind_of p.ground) (tests_of p.ground) l (end_of p) before y q) (x.1 ∙ ap Err x.2) h }

-- what holds over a ground holds over the parser's, which is the same
pub failed_over : {g h : Ground} {l : Level} {end : ℕ} {before : List Located} {place : ℕ} → g ≡ h → Failed (kind_of h) l end before place → Failed (kind_of g) l end before place
failed_over {l = l} {end} {before} {place} e f = subst⁻¹ (λ (x : Ground). Failed (kind_of x) l end before place) e f

pub read_over : {g h : Ground} {l : Level} {before : List Located} {v : Truth} {q : Parser} → g ≡ h → Read (kind_of h) (tests_of h) l before v q → Read (kind_of g) (tests_of g) l before v q
read_over {l = l} {before} {v} {q} e r = subst⁻¹ (λ (x : Ground). Read (kind_of x) (tests_of x) l before v q) e r
