-- A condition has one tree: every reading of it runs a machine that builds the tree.
use Rattle.std.proofs.Common.{◌≡◌, ℕ, zero, suc, false, List, [], ◌∷◌, ◌++◌, sym, refl, ap, ◌∙◌}
use mathlib.Core.Option.{Option, none, some}
use Rattle.values.specs.declared.amount.Comparison.{Comparison}
use Rattle.grammar.specs.Symbols.{Operand, Symbol, or_word, and_word, not_word, truth_word, opening, closing, operand, sign, link_word}
use Rattle.grammar.specs.Grammar.{Kind, compares, status, Tree, constant, test, negation, conjunction, disjunction, Level, condition, term, factor, Reads, one_term, or_term, one_factor, and_factor, of_not, of_parentheses, of_truth, of_comparison, of_link}
use Rattle.grammar.specs.Viable.{OneReading}

-- one level of parentheses: the terms before, the term's factors before, and the nots that wait for what comes
record Frame : Type 0 where
  terms : Option Tree
  factors : Option Tree
  pending : ℕ

data Machine : Type 0 where
  wants : List Frame → Option Tree → Option Tree → ℕ → Machine
  wants_sign : List Frame → Option Tree → Option Tree → ℕ → Operand → Machine
  wants_operand : List Frame → Option Tree → Option Tree → ℕ → Operand → Comparison → Machine
  has : List Frame → Option Tree → Tree → Machine
  stuck : Machine

abbrev after : (Tree → Tree → Tree) → Option Tree → Tree → Tree
after op none t = t
after op (some s) t = op s t

abbrev nots : ℕ → Tree → Tree
nots zero t = t
nots (suc n) t = nots n (negation t)

abbrev gets : List Frame → Option Tree → Option Tree → ℕ → Tree → Machine
gets ks o a n t = has ks o (after conjunction a (nots n t))

abbrev pops : List Frame → Tree → Machine
pops [] t = stuck
pops (f ∷ ks) t = gets ks f.terms f.factors f.pending t

abbrev move : Machine → Symbol → Machine
move (wants ks o a n) not_word = wants ks o a (suc n)
move (wants ks o a n) (truth_word b) = gets ks o a n (constant b)
move (wants ks o a n) opening = wants (record { terms = o; factors = a; pending = n } ∷ ks) none none 0
move (wants ks o a n) (operand x) = wants_sign ks o a n x
move (wants ks o a n) (link_word m) = gets ks o a n (test (status m))
move (wants_sign ks o a n x) (sign c) = wants_operand ks o a n x c
move (wants_operand ks o a n x c) (operand y) = gets ks o a n (test (compares x c y))
move (has ks o t) or_word = wants ks (some (after disjunction o t)) none 0
move (has ks o t) and_word = wants ks o (some t) 0
move (has ks o t) closing = pops ks (after disjunction o t)
move _ _ = stuck

abbrev moves : Machine → List Symbol → Machine
moves m [] = m
moves m (x ∷ xs) = moves (move m x) xs

moves_from : (m : Machine) {n : Machine} (xs ys : List Symbol) → moves m xs ≡ n → moves m (xs ++ ys) ≡ moves n ys
moves_from m [] ys e = ap (λ q. moves q ys) e
moves_from m (x ∷ xs) ys e = moves_from (move m x) xs ys e

abbrev Builds : Level → List Symbol → Tree → Type 0
Builds factor ts t = (ks : List Frame) (o a : Option Tree) (n : ℕ) → moves (wants ks o a n) ts ≡ gets ks o a n t
Builds term ts t = (ks : List Frame) (o : Option Tree) → moves (wants ks o none 0) ts ≡ has ks o t
Builds condition ts t = (ks : List Frame) → (o : Option Tree) × (u : Tree) × (moves (wants ks none none 0) ts ≡ has ks o u) × (after disjunction o u ≡ t)

builds : (k : Kind) (l : Level) (ts : List Symbol) (t : Tree) → Reads k l ts t → Builds l ts t
builds k l ts t (one_term {t = u} r) = λ ks. (none, u, builds _ _ _ _ r ks none, refl)
builds k l ts t (or_term {ts = us} {us = vs} {b = b} p q) = λ ks.
    let h = builds _ _ _ _ p ks in
    let o = some (after disjunction h.0 h.1) in
    (o, b, moves_from (wants ks none none 0) us (or_word ∷ vs) h.2 ∙ builds _ _ _ _ q ks o, ap (λ s. disjunction s b) h.3)
builds k l ts t (one_factor r) = λ ks o. builds _ _ _ _ r ks o none 0
builds k l ts t (and_factor {ts = us} {us = vs} {a = a} p q) = λ ks o. moves_from (wants ks o none 0) us (and_word ∷ vs) (builds _ _ _ _ p ks o) ∙ builds _ _ _ _ q ks o (some a) 0
builds k l ts t (of_not r) = λ ks o a n. builds _ _ _ _ r ks o a (suc n)
builds k l ts t (of_parentheses {ts = us} r) = λ ks o a n.
    let h = builds _ _ _ _ r (record { terms = o; factors = a; pending = n } ∷ ks) in
    moves_from (wants (record { terms = o; factors = a; pending = n } ∷ ks) none none 0) us (closing ∷ []) h.2 ∙ ap (gets ks o a n) h.3
builds k l ts t of_truth = λ ks o a n. refl
builds k l ts t of_comparison = λ ks o a n. refl
builds k l ts t (of_link m) = λ ks o a n. refl

abbrev built : Machine → Tree
built (has ks o t) = after disjunction o t
built _ = constant false

pub one_reading : OneReading
one_reading k ts t u p q =
    let h = builds k condition ts t p [] in
    let j = builds k condition ts u q [] in
    sym h.3 ∙ ap built (sym h.2 ∙ j.2) ∙ j.3
