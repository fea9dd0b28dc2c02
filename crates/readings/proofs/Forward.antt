-- What the grammar reads is worked out: every part leads from where it begins to where it has ended.
use Rattle.std.proofs.Common.{◌≡◌, suc, cond, List, [], ◌∷◌, ◌++◌, Some, None, Option, refl, ap, ◌∙◌}
use Rattle.grammar.specs.Symbols.{Symbol, or_word, and_word, closing}
use Rattle.grammar.specs.Grammar.{Kind, status, Tree, test, disjunction, Level, condition, term, factor, Reads, one_term, or_term, one_factor, and_factor, of_not, of_parentheses, of_truth, of_comparison, of_link}
use Rattle.readings.specs.Stages.{Frame, Stage, factor_wanted, factor_ended, failed, new_term, joined, with_factor, next, read_on, condition_of}
use Rattle.readings.specs.Readings.{read_symbols}
use Rattle.readings.specs.Theorems.{ReadWorkedOut}

-- from a stage that these symbols lead to, the next ones lead on
read_from : (k : Kind) (g : Stage) {h : Stage} (ss us : List Symbol) → read_on k g ss ≡ h → read_on k g (ss ++ us) ≡ read_on k h us
read_from k g [] us e = ap (λ x. read_on k x us) e
read_from k g (s ∷ ss) us e = read_from k (next k g s) ss us e

abbrev Leads : Kind → Level → List Symbol → Tree → Type 0
Leads k factor ss t = (f : Frame) (outer : List Frame) → read_on k (factor_wanted f outer) ss ≡ with_factor f outer t
Leads k term ss t = (terms : Option Tree) (outer : List Frame) → read_on k (factor_wanted (new_term terms) outer) ss ≡ factor_ended terms t outer
Leads k condition ss t = (outer : List Frame) → (terms : Option Tree) × (u : Tree) × (read_on k (factor_wanted (new_term None) outer) ss ≡ factor_ended terms u outer) × (joined disjunction terms u ≡ t)

leads : {k : Kind} {l : Level} {ss : List Symbol} {t : Tree} → Reads k l ss t → Leads k l ss t
leads (one_term {t = u} r) = λ outer. (None, u, leads r None outer, refl)
leads (or_term {ts = us} {us = vs} {b = b} p q) = λ outer.
    let h = leads p outer in
    let o = Some (joined disjunction h.0 h.1) in
    (o, b, read_from _ (factor_wanted (new_term None) outer) us (or_word ∷ vs) h.2 ∙ leads q o outer, ap (λ s. disjunction s b) h.3)
leads (one_factor r) = λ terms outer. leads r (new_term terms) outer
leads (and_factor {ts = us} {us = vs} {a = a} p q) = λ terms outer.
    read_from _ (factor_wanted (new_term terms) outer) us (and_word ∷ vs) (leads p terms outer) ∙ leads q (record { terms = terms; factors = Some a; nots = 0 }) outer
leads (of_not r) = λ f outer. leads r (record { terms = f.terms; factors = f.factors; nots = suc f.nots }) outer
leads (of_parentheses {ts = us} r) = λ f outer.
    let h = leads r (f ∷ outer) in
    read_from _ (factor_wanted (new_term None) (f ∷ outer)) us (closing ∷ []) h.2 ∙ ap (with_factor f outer) h.3
leads of_truth = λ f outer. refl
leads of_comparison = λ f outer. refl
leads (of_link {n = n} m) = λ f outer. ap (λ b. cond b (with_factor f outer (test (status n))) failed) m

pub reads_worked_out : (k : Kind) (ss : List Symbol) (t : Tree) → Reads k condition ss t → read_symbols k ss ≡ Some t
reads_worked_out k ss t r =
    let h = leads r [] in
    ap condition_of h.2 ∙ ap Some h.3

pub read_worked_out : ReadWorkedOut
read_worked_out k text t r = reads_worked_out k _ t r
