-- The steps of reading conditions, terms and factors.
use Rattle.std.proofs.Common.{◌≡◌, ℕ, Bool, List, [], ◌∷◌, length, Some, None, Ok, Err, Option, Result, sym, refl, ap, ◌∙◌, subst, inl, inr, arith}
use mathlib.Core.Path.{subst⁻¹}
use Rattle.grammar.specs.Symbols as g
use Rattle.grammar.specs.Grammar.{Kind, Level, Test, condition, factor}
use Rattle.grammar.specs.Faults.{Located}
use Rattle.grammar.specs.Parsing.{Done, Failed, place_of, want, dead, step, heads, is_closing}
use Rattle.grammar.proofs.Joins.{Barred, none_fails, close_fails, parentheses_done}
use Rattle.tokens.specs.declared.fault.Fault.{Fault}
use Rattle.tokens.specs.declared.symbol.Symbol.{Symbol}
use Rattle.tokens.specs.declared.symbol.Symbol.TheVariants.{Or, And, Not, Truth as TruthWord, Open, Close, Operand, Sign, Link}
use Rattle.tokens.specs.declared.symbol.Operand as operands
use Rattle.tokens.specs.Symbols.{meaning}
use Rattle.tokens.specs.Following.{to_come}
use Rattle.conditions.specs.declared.parser.Parser.{Parser}
use Rattle.conditions.specs.Truths.{Truth}
use Rattle.conditions.specs.Values.{value, kind_of, tests_of}
use Rattle.conditions.specs.Steps.{Kept, Ready, ReadyBy, rest, rest_by, headed, end_of, Read, ParsedFrom, ClosedBy}
use Rattle.conditions.proofs.Parts.{bad_follows, failed_over, read_over}

-- what was said over the ground and the text of one is said of the other
pub failed_kept : {p q : Parser} {l : Level} {before : List Located} {at : ℕ} → Kept p q → Failed (kind_of q.ground) l (end_of q) before at → Failed (kind_of p.ground) l (end_of p) before at
failed_kept {p} {q} {l} {before} {at} k h = failed_over (sym k.ground_is) (subst (λ n. Failed (kind_of q.ground) l n before at) (ap length k.text_is) h)

pub read_kept : {p q : Parser} {l : Level} {before : List Located} {v : Truth} {s : Parser} → Kept p q → Read (kind_of q.ground) (tests_of q.ground) l before v s → Read (kind_of p.ground) (tests_of p.ground) l before v s
read_kept k h = read_over (sym k.ground_is) h

-- the symbol ahead heads the rest
heads_by : (f : g.Symbol → Bool) (end place : ℕ) (o : Option Symbol) (after : List Located) → ReadyBy end place o after → heads f (rest_by place o after) ≡ headed f o
heads_by f end place None after h = ap (heads f) h.0
heads_by f end place (Some s) after h = refl

pub heads_ahead : (f : g.Symbol → Bool) (p : Parser) → Ready p → heads f (rest p) ≡ headed f p.ahead.symbol
heads_ahead f p h = heads_by f (end_of p) p.ahead.place p.ahead.symbol (to_come p.lexer) h

-- a symbol ahead is the first of the rest
pub ahead_is : (p : Parser) (s : Symbol) → p.ahead.symbol ≡ Some s → rest p ≡ (p.ahead.place, meaning s) ∷ to_come p.lexer
ahead_is p s e = ap (λ o. rest_by p.ahead.place o (to_come p.lexer)) e

place_by : (end place : ℕ) (o : Option Symbol) (after : List Located) → ReadyBy end place o after → place ≡ place_of end (rest_by place o after)
place_by end place None after h = h.1 ∙ ap (place_of end) (sym h.0)
place_by end place (Some s) after h = refl

-- a fault at the symbol ahead is at the place of the rest
pub place_ahead : (p : Parser) → Ready p → p.ahead.place ≡ place_of (end_of p) (rest p)
place_ahead p h = place_by (end_of p) p.ahead.place p.ahead.symbol (to_come p.lexer) h

-- a symbol that begins no factor of any kind
pub no_first : (s : Symbol) → (s ≡ Not → ⊥) → (s ≡ Open → ⊥) → ((b : Bool) → s ≡ TruthWord b → ⊥) → ((x : operands.Operand) → s ≡ Operand x → ⊥) → ((n : ℕ) → s ≡ Link n → ⊥) → (k : Kind) (d : ℕ) → step k (want d) (meaning s) ≡ dead
no_first Or a b c x n k d = refl
no_first And a b c x n k d = refl
no_first Not a b c x n k d = absurd (a refl)
no_first (TruthWord v) a b c x n k d = absurd (c v refl)
no_first Open a b c x n k d = absurd (b refl)
no_first Close a b c x n k d = refl
no_first (Operand y) a b c x n k d = absurd (x y refl)
no_first (Sign y) a b c x n k d = refl
no_first (Link y) a b c x n k d = absurd (n y refl)

pub stuck_at : {k : Kind} {end : ℕ} {before after : List Located} {place : ℕ} {s : g.Symbol} → before ≡ (place, s) ∷ after → ((d : ℕ) → step k (want d) s ≡ dead) → Failed k factor end before place
stuck_at {k} {end} e h = none_fails (subst⁻¹ (Barred k want) e h) (sym (ap (place_of end) e))

pub stuck_end : {k : Kind} {end : ℕ} {before : List Located} {place : ℕ} → before ≡ [] → place ≡ end → Failed k factor end before place
stuck_end {k} {end} e h = none_fails (subst⁻¹ (Barred k want) e tt) (h ∙ sym (ap (place_of end) e))

-- after the condition in parentheses: the parenthesis and what follows it
pub closes : {k : Kind} {tests : Test → Truth} {end : ℕ} {before mid : List Located} {place : ℕ} (q : Parser) (v : Truth) (r : Result Truth Fault) (s : Parser) →
    before ≡ (place, g.opening) ∷ mid → end_of q ≡ end → Read k tests condition mid v q → ClosedBy q v r s → ParsedFrom k tests factor end before r s
closes {k} {tests} {end} {before} {mid} q v (Ok w) s e same d c =
    record {
      done = parentheses_done e (subst⁻¹ (λ x. Done k condition (λ t. x ≡ value tests t) mid (rest q)) c.0 d.done) (ahead_is q Close c.1 ∙ ap (λ ts. (q.ahead.place, g.closing) ∷ ts) (sym c.2.0));
      ready = c.2.1;
      shorter = omega (arith, c.2.2, d.shorter, ap length e);
    }
closes {k} {tests} {end} {before} {mid} q v (Err f) s e same d (inl c) = close_fails e d.done (heads_ahead is_closing q d.ready ∙ c.0) (c.1 ∙ place_ahead q d.ready ∙ ap (λ n. place_of n (rest q)) same)
closes {k} {tests} {end} {before} {mid} q v (Err f) s e same d (inr c) = bad_follows (parentheses_done e d.done (ahead_is q Close c.0)) c.1
