-- What is worked out is a reading: at every stage the symbols so far are parts that the grammar reads.
use Rattle.std.proofs.Common.{◌≡◌, ℕ, suc, Bool, true, false, cond, List, [], ◌∷◌, ◌++◌, Some, None, Option, sym, refl, ap, ◌∙◌, subst, append_assoc, append-nil}
use mathlib.Core.Path.{subst⁻¹}
use Rattle.values.specs.declared.amount.Comparison.{Comparison}
use Rattle.grammar.specs.Symbols.{Operand, Symbol, or_word, and_word, not_word, truth_word, opening, closing, operand, sign, link_word, bad}
use Rattle.grammar.specs.Grammar.{Kind, transition, join, member, compares, status, Tree, test, negation, conjunction, disjunction, condition, term, factor, Reads, one_term, or_term, one_factor, and_factor, of_not, of_parentheses, of_truth, of_comparison, of_link}
use Rattle.readings.specs.Stages.{Frame, Stage, factor_wanted, sign_wanted, operand_wanted, factor_ended, failed, new_term, joined, negations, with_factor, closed, first_operand, link_status, at_factor, at_sign, at_operand, at_end, next, read_on, condition_of}
use Rattle.readings.specs.Readings.{read_symbols}
use Rattle.readings.specs.Theorems.{WorkedOutReads}

-- with a term after them these symbols are a condition
abbrev TermsBefore : Kind → Option Tree → List Symbol → Type 0
TermsBefore k terms us = (vs : List Symbol) (t : Tree) → Reads k term vs t → Reads k condition (us ++ vs) (joined disjunction terms t)

-- with a factor after them these symbols are a term
abbrev FactorsBefore : Kind → Frame → List Symbol → Type 0
FactorsBefore k f vs = (ws : List Symbol) (t : Tree) → Reads k factor ws t → Reads k term (vs ++ ws) (joined conjunction f.factors (negations f.nots t))

-- the symbols before a wanted factor: those outside the innermost parenthesis, the terms, the factors and nots
record Before (k : Kind) (Outer : List Symbol → Type 0) (f : Frame) (used : List Symbol) : Type 0 where
  outside : List Symbol
  us : List Symbol
  vs : List Symbol
  split : used ≡ outside ++ (us ++ vs)
  outer : Outer outside
  terms : TermsBefore k f.terms us
  factors : FactorsBefore k f vs

-- the symbols up to the end of a factor
record Ended (k : Kind) (Outer : List Symbol → Type 0) (o : Option Tree) (t : Tree) (used : List Symbol) : Type 0 where
  outside : List Symbol
  us : List Symbol
  vs : List Symbol
  split : used ≡ outside ++ (us ++ vs)
  outer : Outer outside
  terms : TermsBefore k o us
  reads : Reads k term vs t

abbrev Outside : Kind → List Frame → List Symbol → Type 0
Outside k [] used = used ≡ []
Outside k (f ∷ outer) used = (before : List Symbol) × (used ≡ before ++ opening ∷ []) × Before k (Outside k outer) f before

-- comparisons are tests of this kind
abbrev Compares : Kind → Type 0
Compares k = (x y : Operand) (c : Comparison) → Reads k factor (operand x ∷ sign c ∷ operand y ∷ []) (test (compares x c y))

-- a comparison is begun with these symbols
abbrev Comparing : Kind → List Symbol → Frame → List Frame → List Symbol → Type 0
Comparing k begun f outer used = (before : List Symbol) × (used ≡ before ++ begun) × Before k (Outside k outer) f before × Compares k

abbrev At : Kind → Stage → List Symbol → Type 0
At k (factor_wanted f outer) used = Before k (Outside k outer) f used
At k (sign_wanted x f outer) used = Comparing k (operand x ∷ []) f outer used
At k (operand_wanted x c f outer) used = Comparing k (operand x ∷ sign c ∷ []) f outer used
At k (factor_ended terms t outer) used = Ended k (Outside k outer) terms t used
At k failed used = Unit {0}

ends : {k : Kind} {Outer : List Symbol → Type 0} {f : Frame} {used ws : List Symbol} {t : Tree} → Before k Outer f used → Reads k factor ws t → Ended k Outer f.terms (joined conjunction f.factors (negations f.nots t)) (used ++ ws)
ends {ws = ws} {t = t} b r = record {
  outside = b.outside;
  us = b.us;
  vs = b.vs ++ ws;
  split = ap (λ x. x ++ ws) b.split ∙ simp append_assoc;
  outer = b.outer;
  terms = b.terms;
  reads = b.factors ws t r;
}

-- all the terms inside the innermost parenthesis
inner : {k : Kind} {Outer : List Symbol → Type 0} {o : Option Tree} {t : Tree} {used : List Symbol} (e : Ended k Outer o t used) → Reads k condition (e.us ++ e.vs) (joined disjunction o t)
inner {t = t} e = e.terms e.vs t e.reads

-- a condition begins, outside or in a parenthesis
begins : {k : Kind} {Outer : List Symbol → Type 0} {used : List Symbol} → Outer used → Before k Outer (new_term None) used
begins {used = used} o = record {
  outside = used;
  us = [];
  vs = [];
  split = sym (append-nil used);
  outer = o;
  terms = λ vs t r. one_term r;
  factors = λ ws t r. one_factor r;
}

after_not : {k : Kind} {Outer : List Symbol → Type 0} {f : Frame} {used : List Symbol} → Before k Outer f used → Before k Outer (record { terms = f.terms; factors = f.factors; nots = suc f.nots }) (used ++ not_word ∷ [])
after_not b = record {
  outside = b.outside;
  us = b.us;
  vs = b.vs ++ not_word ∷ [];
  split = ap (λ x. x ++ not_word ∷ []) b.split ∙ simp append_assoc;
  outer = b.outer;
  terms = b.terms;
  factors = λ ws t r. rw append_assoc (b.factors (not_word ∷ ws) (negation t) (of_not r));
}

after_or : {k : Kind} {Outer : List Symbol → Type 0} {o : Option Tree} {t : Tree} {used : List Symbol} → Ended k Outer o t used → Before k Outer (new_term (Some (joined disjunction o t))) (used ++ or_word ∷ [])
after_or e = record {
  outside = e.outside;
  us = (e.us ++ e.vs) ++ or_word ∷ [];
  vs = [];
  split = ap (λ x. x ++ or_word ∷ []) e.split ∙ simp (append_assoc, append-nil);
  outer = e.outer;
  terms = λ vs u r. rw (append_assoc (e.us ++ e.vs) (or_word ∷ []) vs) (or_term (inner e) r);
  factors = λ ws u r. one_factor r;
}

after_and : {k : Kind} {Outer : List Symbol → Type 0} {o : Option Tree} {t : Tree} {used : List Symbol} → Ended k Outer o t used → Before k Outer (record { terms = o; factors = Some t; nots = 0 }) (used ++ and_word ∷ [])
after_and e = record {
  outside = e.outside;
  us = e.us;
  vs = e.vs ++ and_word ∷ [];
  split = ap (λ x. x ++ and_word ∷ []) e.split ∙ simp append_assoc;
  outer = e.outer;
  terms = e.terms;
  factors = λ ws u r. rw append_assoc (and_factor e.reads r);
}

after_closing : {k : Kind} {o : Option Tree} {t : Tree} {used : List Symbol} (outer : List Frame) → Ended k (Outside k outer) o t used → At k (closed outer (joined disjunction o t)) (used ++ closing ∷ [])
after_closing [] e = tt
after_closing {k} {o} {t} {used} (f ∷ outer) e =
    let b = e.outer in
    let split : used ++ closing ∷ [] ≡ b.0 ++ (opening ∷ ((e.us ++ e.vs) ++ closing ∷ [])) =
    ap (λ x. x ++ closing ∷ []) (e.split ∙ ap (λ x. x ++ (e.us ++ e.vs)) b.1) ∙ simp append_assoc in
    subst⁻¹ (At k (with_factor f outer (joined disjunction o t))) split (ends b.2 (of_parentheses (inner e)))

after_first : (k : Kind) (x : Operand) (f : Frame) (outer : List Frame) (used : List Symbol) → Before k (Outside k outer) f used → At k (first_operand k x f outer) (used ++ operand x ∷ [])
after_first transition x f outer used b = (used, refl, b, λ y z c. of_comparison)
after_first (join ls) x f outer used b = tt

after_link : (k : Kind) (n : ℕ) (f : Frame) (outer : List Frame) (used : List Symbol) → Before k (Outside k outer) f used → At k (link_status k n f outer) (used ++ link_word n ∷ [])
after_link transition n f outer used b = tt
after_link (join ls) n f outer used b = go (member n ls) refl
  where
    go : (m : Bool) → member n ls ≡ m → At (join ls) (cond m (with_factor f outer (test (status n))) failed) (used ++ link_word n ∷ [])
    go true e = ends b (of_link e)
    go false e = tt

after_factor_wanted : (k : Kind) (f : Frame) (outer : List Frame) (used : List Symbol) → Before k (Outside k outer) f used → (s : Symbol) → At k (at_factor k f outer s) (used ++ s ∷ [])
after_factor_wanted k f outer used b or_word = tt
after_factor_wanted k f outer used b and_word = tt
after_factor_wanted k f outer used b not_word = after_not b
after_factor_wanted k f outer used b (truth_word v) = ends b of_truth
after_factor_wanted k f outer used b opening = begins (used, refl, b)
after_factor_wanted k f outer used b closing = tt
after_factor_wanted k f outer used b (operand x) = after_first k x f outer used b
after_factor_wanted k f outer used b (sign c) = tt
after_factor_wanted k f outer used b (link_word n) = after_link k n f outer used b
after_factor_wanted k f outer used b bad = tt

after_sign_wanted : (k : Kind) (x : Operand) (f : Frame) (outer : List Frame) (used : List Symbol) → Comparing k (operand x ∷ []) f outer used → (s : Symbol) → At k (at_sign x f outer s) (used ++ s ∷ [])
after_sign_wanted k x f outer used b or_word = tt
after_sign_wanted k x f outer used b and_word = tt
after_sign_wanted k x f outer used b not_word = tt
after_sign_wanted k x f outer used b (truth_word v) = tt
after_sign_wanted k x f outer used b opening = tt
after_sign_wanted k x f outer used b closing = tt
after_sign_wanted k x f outer used b (operand y) = tt
after_sign_wanted k x f outer used b (sign c) = (b.0, ap (λ ts. ts ++ sign c ∷ []) b.1 ∙ append_assoc b.0 (operand x ∷ []) (sign c ∷ []), b.2, b.3)
after_sign_wanted k x f outer used b (link_word n) = tt
after_sign_wanted k x f outer used b bad = tt

after_operand_wanted : (k : Kind) (x : Operand) (c : Comparison) (f : Frame) (outer : List Frame) (used : List Symbol) → Comparing k (operand x ∷ sign c ∷ []) f outer used → (s : Symbol) → At k (at_operand x c f outer s) (used ++ s ∷ [])
after_operand_wanted k x c f outer used b or_word = tt
after_operand_wanted k x c f outer used b and_word = tt
after_operand_wanted k x c f outer used b not_word = tt
after_operand_wanted k x c f outer used b (truth_word v) = tt
after_operand_wanted k x c f outer used b opening = tt
after_operand_wanted k x c f outer used b closing = tt
after_operand_wanted k x c f outer used b (operand y) =
    subst⁻¹ (At k (with_factor f outer (test (compares x c y)))) (ap (λ ts. ts ++ operand y ∷ []) b.1 ∙ append_assoc b.0 (operand x ∷ sign c ∷ []) (operand y ∷ [])) (ends b.2 (b.3 x y c))
after_operand_wanted k x c f outer used b (sign d) = tt
after_operand_wanted k x c f outer used b (link_word n) = tt
after_operand_wanted k x c f outer used b bad = tt

after_factor_ended : (k : Kind) (o : Option Tree) (t : Tree) (outer : List Frame) (used : List Symbol) → Ended k (Outside k outer) o t used → (s : Symbol) → At k (at_end o t outer s) (used ++ s ∷ [])
after_factor_ended k o t outer used e or_word = after_or e
after_factor_ended k o t outer used e and_word = after_and e
after_factor_ended k o t outer used e not_word = tt
after_factor_ended k o t outer used e (truth_word v) = tt
after_factor_ended k o t outer used e opening = tt
after_factor_ended k o t outer used e closing = after_closing outer e
after_factor_ended k o t outer used e (operand x) = tt
after_factor_ended k o t outer used e (sign c) = tt
after_factor_ended k o t outer used e (link_word n) = tt
after_factor_ended k o t outer used e bad = tt

after_next : (k : Kind) (g : Stage) (used : List Symbol) → At k g used → (s : Symbol) → At k (next k g s) (used ++ s ∷ [])
after_next k (factor_wanted f outer) used h s = after_factor_wanted k f outer used h s
after_next k (sign_wanted x f outer) used h s = after_sign_wanted k x f outer used h s
after_next k (operand_wanted x c f outer) used h s = after_operand_wanted k x c f outer used h s
after_next k (factor_ended o t outer) used h s = after_factor_ended k o t outer used h s
after_next k failed used h s = tt

whole : (k : Kind) (g : Stage) (used : List Symbol) (t : Tree) → At k g used → condition_of g ≡ Some t → Reads k condition used t
whole k (factor_wanted f outer) used t h e = cc
whole k (sign_wanted x f outer) used t h e = cc
whole k (operand_wanted x c f outer) used t h e = cc
whole k (factor_ended o u []) used t h e =
    let same : joined disjunction o u ≡ t = cc in
    let all : used ≡ h.us ++ h.vs = h.split ∙ ap (λ x. x ++ (h.us ++ h.vs)) h.outer in
    subst (Reads k condition used) same (subst⁻¹ (λ x. Reads k condition x (joined disjunction o u)) all (inner h))
whole k (factor_ended o u (f ∷ outer)) used t h e = cc
whole k failed used t h e = cc

reads_back : (k : Kind) (g : Stage) (used ss : List Symbol) (t : Tree) → At k g used → condition_of (read_on k g ss) ≡ Some t → Reads k condition (used ++ ss) t
reads_back k g used [] t h e = rw append-nil (whole k g used t h e)
reads_back k g used (s ∷ ss) t h e = subst (λ x. Reads k condition x t) (append_assoc used (s ∷ []) ss) (reads_back k (next k g s) (used ++ s ∷ []) ss t (after_next k g used h s) e)

pub worked_out_read : (k : Kind) (ss : List Symbol) (t : Tree) → read_symbols k ss ≡ Some t → Reads k condition ss t
worked_out_read k ss t e = reads_back k (factor_wanted (new_term None) []) [] ss t (begins refl) e

pub worked_out_reads : WorkedOutReads
worked_out_reads k text t e = worked_out_read k _ t e
