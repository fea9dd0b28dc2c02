-- How far the reading of a condition has come after each of its symbols.
use Rattle.std.specs.Prelude.{ℕ, zero, suc, cond, List, [], ◌∷◌, Some, None, Option}
use Rattle.values.specs.declared.amount.Comparison.{Comparison}
use Rattle.grammar.specs.Symbols.{Operand, Symbol, or_word, and_word, not_word, truth_word, opening, closing, operand, sign, link_word, bad}
use Rattle.grammar.specs.Grammar.{Kind, transition, join, member, compares, status, Tree, constant, test, negation, conjunction, disjunction}

-- inside one parenthesis, or outside all: the terms before the last or, the factors before the last
-- and of this term, and how many nots wait for the next factor
pub record Frame : Type 0 where
  pub terms : Option Tree
  pub factors : Option Tree
  pub nots : ℕ

-- a factor is wanted, the sign or the second operand of a comparison is, a factor has just ended with
-- this term so far, or nothing can go on; last the frames outside, the innermost first
pub data Stage : Type 0 where
  factor_wanted : Frame → List Frame → Stage
  sign_wanted : Operand → Frame → List Frame → Stage
  operand_wanted : Operand → Comparison → Frame → List Frame → Stage
  factor_ended : Option Tree → Tree → List Frame → Stage
  failed : Stage

-- a term of which no factor is read yet, after these terms
abbrev pub new_term : Option Tree → Frame
new_term terms = record { terms = terms; factors = None; nots = 0 }

abbrev pub joined : (Tree → Tree → Tree) → Option Tree → Tree → Tree
joined op None t = t
joined op (Some s) t = op s t

abbrev pub negations : ℕ → Tree → Tree
negations zero t = t
negations (suc n) t = negations n (negation t)

-- the nots belong to the factor, and the factor to the term
abbrev pub with_factor : Frame → List Frame → Tree → Stage
with_factor f outer t = factor_ended f.terms (joined conjunction f.factors (negations f.nots t)) outer

-- a closed parenthesis is a factor of the frame outside
abbrev pub closed : List Frame → Tree → Stage
closed [] t = failed
closed (f ∷ outer) t = with_factor f outer t

-- a comparison stands only in a transition text
abbrev pub first_operand : Kind → Operand → Frame → List Frame → Stage
first_operand transition x f outer = sign_wanted x f outer
first_operand (join ls) x f outer = failed

-- a link word counts only in a join text, and only the word of one of its links
abbrev pub link_status : Kind → ℕ → Frame → List Frame → Stage
link_status transition n f outer = failed
link_status (join ls) n f outer = cond (member n ls) (with_factor f outer (test (status n))) failed

abbrev pub at_factor : Kind → Frame → List Frame → Symbol → Stage
at_factor k f outer or_word = failed
at_factor k f outer and_word = failed
at_factor k f outer not_word = factor_wanted (record { terms = f.terms; factors = f.factors; nots = suc f.nots }) outer
at_factor k f outer (truth_word b) = with_factor f outer (constant b)
at_factor k f outer opening = factor_wanted (new_term None) (f ∷ outer)
at_factor k f outer closing = failed
at_factor k f outer (operand x) = first_operand k x f outer
at_factor k f outer (sign c) = failed
at_factor k f outer (link_word n) = link_status k n f outer
at_factor k f outer bad = failed

abbrev pub at_sign : Operand → Frame → List Frame → Symbol → Stage
at_sign x f outer or_word = failed
at_sign x f outer and_word = failed
at_sign x f outer not_word = failed
at_sign x f outer (truth_word b) = failed
at_sign x f outer opening = failed
at_sign x f outer closing = failed
at_sign x f outer (operand y) = failed
at_sign x f outer (sign c) = operand_wanted x c f outer
at_sign x f outer (link_word n) = failed
at_sign x f outer bad = failed

abbrev pub at_operand : Operand → Comparison → Frame → List Frame → Symbol → Stage
at_operand x c f outer or_word = failed
at_operand x c f outer and_word = failed
at_operand x c f outer not_word = failed
at_operand x c f outer (truth_word b) = failed
at_operand x c f outer opening = failed
at_operand x c f outer closing = failed
at_operand x c f outer (operand y) = with_factor f outer (test (compares x c y))
at_operand x c f outer (sign d) = failed
at_operand x c f outer (link_word n) = failed
at_operand x c f outer bad = failed

-- or begins a new term, and goes on with this one
abbrev pub at_end : Option Tree → Tree → List Frame → Symbol → Stage
at_end terms t outer or_word = factor_wanted (new_term (Some (joined disjunction terms t))) outer
at_end terms t outer and_word = factor_wanted (record { terms = terms; factors = Some t; nots = 0 }) outer
at_end terms t outer not_word = failed
at_end terms t outer (truth_word b) = failed
at_end terms t outer opening = failed
at_end terms t outer closing = closed outer (joined disjunction terms t)
at_end terms t outer (operand x) = failed
at_end terms t outer (sign c) = failed
at_end terms t outer (link_word n) = failed
at_end terms t outer bad = failed

abbrev pub next : Kind → Stage → Symbol → Stage
next k (factor_wanted f outer) s = at_factor k f outer s
next k (sign_wanted x f outer) s = at_sign x f outer s
next k (operand_wanted x c f outer) s = at_operand x c f outer s
next k (factor_ended terms t outer) s = at_end terms t outer s
next k failed s = failed

abbrev pub read_on : Kind → Stage → List Symbol → Stage
read_on k g [] = g
read_on k g (s ∷ ss) = read_on k (next k g s) ss

-- outside all parentheses the terms are joined to a condition
abbrev pub ended_in : List Frame → Tree → Option Tree
ended_in [] t = Some t
ended_in (f ∷ outer) t = None

abbrev pub condition_of : Stage → Option Tree
condition_of (factor_wanted f outer) = None
condition_of (sign_wanted x f outer) = None
condition_of (operand_wanted x c f outer) = None
condition_of (factor_ended terms t outer) = ended_in outer (joined disjunction terms t)
condition_of failed = None
