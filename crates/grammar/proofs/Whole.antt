-- What a reader of a whole text knows: the text is a condition, or has its fault at one place.
use Rattle.std.proofs.Common.{◌≡◌, ℕ, ◌<◌, List, [], ◌∷◌, ◌++◌, sym, refl, ap, ◌∙◌, subst, append_assoc, append-nil, arith}
use mathlib.Core.Path.{subst⁻¹}
use Rattle.grammar.specs.Symbols.{Symbol}
use Rattle.grammar.specs.Grammar.{Kind, Tree, condition, Reads}
use Rattle.grammar.specs.Viable.{Continues}
use Rattle.grammar.specs.Faults.{Located, symbols, AtSymbol, FaultAt, at_symbol, at_end, OneFault}
use Rattle.grammar.specs.Parsing.{place_of, State, want, dead, feed, Pending, Stops, Done, Failed}
use Rattle.grammar.proofs.Steps.{feed_from, feed_dead, runs}
use Rattle.grammar.proofs.Joins.{symbols_append, barred_outside}

pub whole_reads : {k : Kind} {means : Tree → Type 0} {before : List Located} → Done k condition means before [] → (t : Tree) × Reads k condition (symbols before) t × means t
whole_reads {k} d = (d.tree, subst⁻¹ (λ ts. Reads k condition (symbols ts) d.tree) (d.split ∙ append-nil d.used) d.reads, d.says)

abbrev alive : State → ℕ
alive dead = 0
alive _ = 1

dies : {k : Kind} (ts : List Symbol) → feed k (want 0) ts ≡ dead → Continues k ts → ⊥
dies {k} ts e c = omega (arith, ap alive (sym (runs c.reads 0) ∙ feed_from k (want 0) ts c.more e ∙ feed_dead k c.more))

fault_at : {k : Kind} {end : ℕ} {at : ℕ} (used rest : List Located) → Continues k (symbols used) → Stops k 0 (symbols used) (symbols rest) → at ≡ place_of end rest → FaultAt k end (used ++ rest) at
fault_at {k} {end} {at} used [] goes stops p = rw append-nil (at_end p (record { goes = goes; not_yet = λ t r. let z : 0 < 0 = subst (Pending 0) (runs r 0) stops in omega arith }))
fault_at {k} {end} {at} used (b ∷ bs) goes stops p =
    rw p (at_symbol (record { before = used; here = b.1; after = bs; split = refl; goes = goes; stops = dies (symbols used ++ b.1 ∷ []) stops }))

pub failed_fault : {k : Kind} {end : ℕ} {ts : List Located} {at : ℕ} → Failed k condition end ts at → FaultAt k end ts at
failed_fault h = rw h.split (fault_at h.used h.rest (record { more = h.more; tree = h.tree; reads = h.goes }) (h.stops 0) h.place)

pub left_over_fault : {k : Kind} {means : Tree → Type 0} {end : ℕ} {ts rest : List Located} {p : ℕ} {s : Symbol} → Done k condition means ts ((p, s) ∷ rest) → FaultAt k end ts p
left_over_fault {k} {rest = rest} {p = p} {s = s} d =
    rw d.split (fault_at d.used ((p, s) ∷ rest) (record { more = []; tree = d.tree; reads = rw append-nil d.reads }) (feed_from k (want 0) (symbols d.used) (s ∷ []) (runs d.reads 0) ∙ barred_outside k s d.ends.0 d.ends.1) refl)

-- what goes on past a symbol goes on with it
goes_past : {k : Kind} {ts : List Located} (front : List Located) (p : ℕ) (s : Symbol) (back : List Located) → ts ≡ front ++ (p, s) ∷ back → Continues k (symbols ts) → Continues k (symbols front ++ s ∷ [])
goes_past {k} front p s back e c =
    let r = subst (λ us. Reads k condition (symbols us ++ c.more) c.tree) e c.reads in
    record { more = symbols back ++ c.more; tree = c.tree; reads = simp append_assoc (simp (symbols_append, append_assoc) at r) }

-- two places in a list, neither of them before the other, are one
same_place :
    (xs ys : List Located) (p q : ℕ) (x y : Symbol) (us vs : List Located) → xs ++ (p, x) ∷ us ≡ ys ++ (q, y) ∷ vs →
    ((mid : List Located) → ys ≡ xs ++ (p, x) ∷ mid → ⊥) → ((mid : List Located) → xs ≡ ys ++ (q, y) ∷ mid → ⊥) → p ≡ q
same_place [] [] p q x y us vs e f g = ap (place_of 0) e
same_place [] (b ∷ ys) p q x y us vs e f g = absurd (f ys (cc))
same_place (a ∷ xs) [] p q x y us vs e f g = absurd (g xs (cc))
same_place (a ∷ xs) (b ∷ ys) p q x y us vs e f g = same_place xs ys p q x y us vs (cc) (λ m h. f m (cc)) (λ m h. g m (cc))

-- symbols that go on have no fault at a symbol
no_stop : {k : Kind} {ts : List Located} {p : ℕ} → AtSymbol k ts p → Continues k (symbols ts) → ⊥
no_stop {p = p} a c = a.stops (goes_past a.before p a.here a.after a.split c)

same_fault : (k : Kind) (end : ℕ) (ts : List Located) (p q : ℕ) → FaultAt k end ts p → FaultAt k end ts q → p ≡ q
same_fault k end ts p q (at_symbol a) (at_symbol b) =
    same_place a.before b.before p q a.here b.here a.after b.after (sym a.split ∙ b.split) (λ mid e. a.stops (goes_past a.before p a.here mid e b.goes))
    (λ mid e. b.stops (goes_past b.before q b.here mid e a.goes))
same_fault k end ts p q (at_symbol a) (at_end e u) = absurd (no_stop a u.goes)
same_fault k end ts p q (at_end e u) (at_symbol b) = absurd (no_stop b u.goes)
same_fault k end ts p q (at_end e u) (at_end i w) = e ∙ sym i

no_fault : (k : Kind) (end : ℕ) (ts : List Located) (t : Tree) (p : ℕ) → Reads k condition (symbols ts) t → FaultAt k end ts p → ⊥
no_fault k end ts t p r (at_symbol a) = no_stop a (record { more = []; tree = t; reads = rw append-nil r })
no_fault k end ts t p r (at_end e u) = u.not_yet t r

pub one_fault : OneFault
one_fault = record { same = same_fault; none = no_fault }
