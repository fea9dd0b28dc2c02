-- What a reader of located symbols has read, or where it fails, from what it has of the parts.
use Rattle.std.proofs.Common.{◌≡◌, ℕ, suc, ◌≤◌, Bool, true, false, cond, List, [], ◌∷◌, ◌++◌, sym, refl, ap, ◌∙◌, append_assoc, append-nil, arith}
use mathlib.Core.Path.{subst⁻¹}
use Rattle.std.proofs.lemmas.List.{map-append}
use Rattle.std.proofs.lemmas.Bool.{true≢false, both_ways}
use Rattle.values.specs.declared.amount.Comparison.{Comparison}
use Rattle.values.specs.declared.amount.Comparison.TheVariants.{Equal}
use Rattle.grammar.specs.Symbols.{Operand, Symbol, or_word, and_word, not_word, truth_word, opening, closing, operand, sign, link_word}
use Rattle.grammar.specs.Grammar.{Kind, transition, join, member, compares, status, Tree, constant, test, negation, conjunction, disjunction, Level, condition, term, factor, Reads, one_term, or_term, one_factor, and_factor, of_not, of_parentheses, of_truth, of_comparison, of_link}
use Rattle.grammar.specs.Faults.{Located, symbols}
use Rattle.grammar.specs.Parsing.{place_of, State, want, want_sign, want_operand, have, dead, closes, operand_first, link_first, step, feed, Pending, Stops, is_or, is_and, is_closing, heads, Ends, Done, Failed}
use Rattle.grammar.proofs.Steps.{feed_from, runs, later}

pub symbols_append : (xs ys : List Located) → symbols (xs ++ ys) ≡ symbols xs ++ symbols ys
symbols_append xs ys = map-append (λ (t : Located). t.1) xs ys

-- Which symbols cannot come.

pub not_or : (s : Symbol) → (s ≡ or_word → ⊥) → is_or s ≡ false
not_or or_word h = absurd (h refl)
not_or _ h = refl

pub not_and : (s : Symbol) → (s ≡ and_word → ⊥) → is_and s ≡ false
not_and and_word h = absurd (h refl)
not_and _ h = refl

pub not_closing : (s : Symbol) → (s ≡ closing → ⊥) → is_closing s ≡ false
not_closing closing h = absurd (h refl)
not_closing _ h = refl

-- after a factor comes and, or, or a closing inside parentheses
after_factor : (k : Kind) (d : ℕ) (s : Symbol) → is_and s ≡ false → is_or s ≡ false → (is_closing s ≡ true → closes d ≡ dead) → step k (have d) s ≡ dead
after_factor k d or_word a o c = absurd (true≢false o)
after_factor k d and_word a o c = absurd (true≢false a)
after_factor k d closing a o c = c refl
after_factor k d _ a o c = refl

pub barred : (k : Kind) (s : Symbol) → is_and s ≡ false → is_or s ≡ false → is_closing s ≡ false → (d : ℕ) → step k (have d) s ≡ dead
barred k s a o c d = after_factor k d s a o (λ e. absurd (both_ways (is_closing s) c e))

-- outside parentheses a closing cannot come either
pub barred_outside : (k : Kind) (s : Symbol) → is_and s ≡ false → is_or s ≡ false → step k (have 0) s ≡ dead
barred_outside k s a o = after_factor k 0 s a o (λ e. refl)

pub no_sign : (k : Kind) (s : Symbol) → ((c : Comparison) → s ≡ sign c → ⊥) → (d : ℕ) → step k (want_sign d) s ≡ dead
no_sign k (sign c) h d = absurd (h c refl)
no_sign k _ h d = refl

pub no_operand : (k : Kind) (s : Symbol) → ((x : Operand) → s ≡ operand x → ⊥) → (d : ℕ) → step k (want_operand d) s ≡ dead
no_operand k (operand x) h d = absurd (h x refl)
no_operand k _ h d = refl

-- nothing but not, an opening, a truth word or a test begins a factor
pub no_start : (k : Kind) (s : Symbol) (d : ℕ) → (s ≡ not_word → ⊥) → (s ≡ opening → ⊥) → ((b : Bool) → s ≡ truth_word b → ⊥) → ((x : Operand) → s ≡ operand x → operand_first k d ≡ dead) → ((n : ℕ) → s ≡ link_word n → link_first k n d ≡ dead) → step k (want d) s ≡ dead
no_start k not_word d n o b x l = absurd (n refl)
no_start k (truth_word t) d n o b x l = absurd (b t refl)
no_start k opening d n o b x l = absurd (o refl)
no_start k (operand y) d n o b x l = x y refl
no_start k (link_word m) d n o b x l = l m refl
no_start k _ d n o b x l = refl

pub no_start_transition : (s : Symbol) → (s ≡ not_word → ⊥) → (s ≡ opening → ⊥) → ((b : Bool) → s ≡ truth_word b → ⊥) → ((x : Operand) → s ≡ operand x → ⊥) → (d : ℕ) → step transition (want d) s ≡ dead
no_start_transition s n o b x d = no_start transition s d n o b (λ y e. absurd (x y e)) (λ m e. refl)

pub no_start_join : (ls : List ℕ) (s : Symbol) → (s ≡ not_word → ⊥) → (s ≡ opening → ⊥) → ((b : Bool) → s ≡ truth_word b → ⊥) → ((n : ℕ) → s ≡ link_word n → member n ls ≡ false) → (d : ℕ) → step (join ls) (want d) s ≡ dead
no_start_join ls s n o b l d = no_start (join ls) s d n o b (λ y e. refl) (λ m e. ap (λ q. cond q (have d) dead) (l m e))

-- the first of these, if there is one, leads on from none of the states
abbrev pub Barred : Kind → (ℕ → State) → List Located → Type 0
Barred k s [] = Unit {0}
Barred k s (t ∷ ts) = (d : ℕ) → step k (s d) t.1 ≡ dead

-- How a whole fails where its parts do.

stops_at : (k : Kind) (s : ℕ → State) (d : ℕ) (used : List Symbol) (rest : List Located) → feed k (want d) used ≡ s d → Pending d (s d) → Barred k s rest → Stops k d used (symbols rest)
stops_at k s d used [] r p b = subst⁻¹ (Pending d) r p
stops_at k s d used (t ∷ ts) r p b = feed_from k (want d) used (t.1 ∷ []) r ∙ b d

-- what was used leads to a state from which nothing that comes leads on
fails_after :
    {k : Kind} {l : Level} {end : ℕ} {before : List Located} {at : ℕ} {tree : Tree} (s : ℕ → State) (used rest : List Located) (more : List Symbol) → before ≡ used ++ rest → Reads k l (symbols used ++ more) tree →
    ((d : ℕ) → feed k (want d) (symbols used) ≡ s d) → ((d : ℕ) → Pending d (s d)) → Barred k s rest → at ≡ place_of end rest → Failed k l end before at
fails_after {k} {tree = tree} s used rest more e r runs_to pending b p =
    record { used = used; rest = rest; more = more; tree = tree; split = e; place = p; goes = r; stops = λ d. stops_at k s d (symbols used) rest (runs_to d) (pending d) b }

-- a part fails behind what leads to its beginning
fails_in :
    {k : Kind} {l sub : Level} {end : ℕ} {before mid : List Located} {at : ℕ} (front : List Located) (back : List Symbol) (op : Tree → Tree) →
    ((ts : List Symbol) (t : Tree) → Reads k sub ts t → Reads k l (symbols front ++ (ts ++ back)) (op t)) →
    ((d : ℕ) → (e : ℕ) × (d ≤ e) × (feed k (want d) (symbols front) ≡ want e)) → before ≡ front ++ mid → Failed k sub end mid at → Failed k l end before at
fails_in {k} {l} front back op around leads e h =
    record {
      used = front ++ h.used;
      rest = h.rest;
      more = h.more ++ back;
      tree = op h.tree;
      split = e ∙ ap (λ ts. front ++ ts) h.split ∙ sym (append_assoc front h.used h.rest);
      place = h.place;
      goes = simp (symbols_append, append_assoc) (simp append_assoc at (around (symbols h.used ++ h.more) h.tree h.goes));
      stops = λ d.
          let f = leads d in
          rw symbols_append (later k d (symbols front) (symbols h.used) (symbols h.rest) f.1 f.2 (h.stops f.0));
    }

-- Parts joined by a symbol, at both levels.

pub record Joint (l sub : Level) (x : Symbol) (op : Tree → Tree → Tree) : Type 0 where
  pub single : {k : Kind} {ts : List Symbol} {t : Tree} → Reads k sub ts t → Reads k l ts t
  pub joins : {k : Kind} {ts us : List Symbol} {a b : Tree} → Reads k l ts a → Reads k sub us b → Reads k l (ts ++ x ∷ us) (op a b)
  pub goes_on : (k : Kind) (d : ℕ) → step k (have d) x ≡ want d

pub ors : Joint condition term or_word disjunction
ors = record { single = one_term; joins = or_term; goes_on = λ k d. refl }

pub ands : Joint term factor and_word conjunction
ands = record { single = one_factor; joins = and_factor; goes_on = λ k d. refl }

-- what stands from before up to after makes a part of value v of any part of value v0
pub record Grown (k : Kind) (l : Level) {V : Type 0} (value : Tree → V) (before after : List Located) (v0 v : V) : Type 0 where
  pub ext : List Located
  pub split : before ≡ ext ++ after
  pub grows : (used : List Located) (t : Tree) → Reads k l (symbols used) t → v0 ≡ value t → (u : Tree) × Reads k l (symbols (used ++ ext)) u × (v ≡ value u)

pub grown_none : {k : Kind} {l : Level} {V : Type 0} {value : Tree → V} {ts : List Located} {v : V} → Grown k l value ts ts v v
grown_none {k} {l} = record { ext = []; split = refl; grows = λ used t r e. (t, rw append-nil r, e) }

module _ {l sub : Level} {x : Symbol} {op : Tree → Tree → Tree} (J : Joint l sub x op) where
  pub first_fails : {k : Kind} {end : ℕ} {before : List Located} {at : ℕ} → Failed k sub end before at → Failed k l end before at
  first_fails h = fails_in [] [] (λ t. t) (λ ts t r. rw append-nil (J.single r)) (λ d. (d, omega arith, refl)) refl h

  -- the next part fails, behind what is read and the joining symbol
  joined_fails :
      {k : Kind} {end : ℕ} {before mid mid2 : List Located} {p at : ℕ} {t : Tree} (front : List Located) →
      Reads k l (symbols front) t → before ≡ front ++ mid → mid ≡ (p, x) ∷ mid2 → Failed k sub end mid2 at → Failed k l end before at
  joined_fails {k} {mid2 = mid2} {p = p} {t = t} front r e took h =
      fails_in (front ++ (p, x) ∷ []) [] (op t) (λ ts u q. simp (symbols_append, append_assoc, append-nil) (J.joins r q))
      (λ n. (n, omega arith, rw symbols_append (feed_from k (want n) (symbols front) (x ∷ []) (runs r n) ∙ J.goes_on k n)))
      (e ∙ ap (λ ts. front ++ ts) took ∙ sym (append_assoc front ((p, x) ∷ []) mid2)) h

  module _ {V : Type 0} {value : Tree → V} where
    pub grown_more :
        {k : Kind} {before mid mid2 after : List Located} {p : ℕ} {v0 v w v2 : V} (f : V → V → V) → ((a b : Tree) → value (op a b) ≡ f (value a) (value b)) →
        Grown k l value before mid v0 v → mid ≡ (p, x) ∷ mid2 → Done k sub (λ t. w ≡ value t) mid2 after → v2 ≡ f v w → Grown k l value before after v0 v2
    grown_more {k} {before} {mid} {mid2} {after} {p} {v0} {v} {w} f val g took d is =
        record {
          ext = g.ext ++ (p, x) ∷ d.used;
          split = g.split ∙ ap (λ ts. g.ext ++ ts) (took ∙ ap (λ ts. (p, x) ∷ ts) d.split) ∙ sym (append_assoc g.ext ((p, x) ∷ d.used) after);
          grows = λ used t r e.
              let h = g.grows used t r e in (
                op h.0 d.tree,
                rw (← append_assoc, symbols_append) (J.joins h.1 d.reads),
                is ∙ ap (λ b. f b w) h.2 ∙ ap (f (value h.0)) d.says ∙ sym (val h.0 d.tree),
              );
        }

    pub all_done : {k : Kind} {before mid after : List Located} {v0 v : V} → Done k sub (λ t. v0 ≡ value t) before mid → Grown k l value mid after v0 v → Ends l after → Done k l (λ t. v ≡ value t) before after
    all_done {after = after} d g e =
        let h = g.grows d.used d.tree (J.single d.reads) d.says in
        record {
          used = d.used ++ g.ext;
          tree = h.0;
          split = d.split ∙ ap (λ ts. d.used ++ ts) g.split ∙ sym (append_assoc d.used g.ext after);
          reads = h.1;
          says = h.2;
          ends = e;
        }

    pub later_fails :
        {k : Kind} {end : ℕ} {before mid mid2 mid3 : List Located} {p at : ℕ} {v0 v : V} → Done k sub (λ t. v0 ≡ value t) before mid → Grown k l value mid mid2 v0 v →
        mid2 ≡ (p, x) ∷ mid3 → Failed k sub end mid3 at → Failed k l end before at
    later_fails {mid2 = mid2} d g took h =
        let j = g.grows d.used d.tree (J.single d.reads) d.says in
        joined_fails (d.used ++ g.ext) j.1 (d.split ∙ ap (λ ts. d.used ++ ts) g.split ∙ sym (append_assoc d.used g.ext mid2)) took h

-- The cases of a factor.

pub truth_done : {k : Kind} {means : Tree → Type 0} {before after : List Located} {p : ℕ} {b : Bool} → before ≡ (p, truth_word b) ∷ after → means (constant b) → Done k factor means before after
truth_done {p = p} {b = b} e m = record { used = (p, truth_word b) ∷ []; tree = constant b; split = e; reads = of_truth; says = m; ends = tt }

pub comparison_done :
    {means : Tree → Type 0} {before after : List Located} {p q r : ℕ} {x y : Operand} {c : Comparison} →
    before ≡ (p, operand x) ∷ (q, sign c) ∷ (r, operand y) ∷ after → means (test (compares x c y)) → Done transition factor means before after
comparison_done {p = p} {q} {r} {x} {y} {c} e m =
    record { used = (p, operand x) ∷ (q, sign c) ∷ (r, operand y) ∷ []; tree = test (compares x c y); split = e; reads = of_comparison; says = m; ends = tt }

pub link_done : {ls : List ℕ} {means : Tree → Type 0} {before after : List Located} {p n : ℕ} → before ≡ (p, link_word n) ∷ after → member n ls ≡ true → means (test (status n)) → Done (join ls) factor means before after
link_done {p = p} {n = n} e i m = record { used = (p, link_word n) ∷ []; tree = test (status n); split = e; reads = of_link i; says = m; ends = tt }

pub not_done :
    {k : Kind} {inner means : Tree → Type 0} {before mid after : List Located} {p : ℕ} →
    before ≡ (p, not_word) ∷ mid → Done k factor inner mid after → ((t : Tree) → inner t → means (negation t)) → Done k factor means before after
not_done {p = p} e d m =
    record { used = (p, not_word) ∷ d.used; tree = negation d.tree; split = e ∙ ap (λ ts. (p, not_word) ∷ ts) d.split; reads = of_not d.reads; says = m d.tree d.says; ends = tt }

pub parentheses_done :
    {k : Kind} {means : Tree → Type 0} {before mid last after : List Located} {p q : ℕ} →
    before ≡ (p, opening) ∷ mid → Done k condition means mid last → last ≡ (q, closing) ∷ after → Done k factor means before after
parentheses_done {after = after} {p = p} {q = q} e d c =
    record {
      used = (p, opening) ∷ (d.used ++ (q, closing) ∷ []);
      tree = d.tree;
      split = e ∙ ap (λ ts. (p, opening) ∷ ts) (d.split ∙ ap (λ ts. d.used ++ ts) c ∙ sym (append_assoc d.used ((q, closing) ∷ []) after));
      reads = rw symbols_append (of_parentheses d.reads);
      says = d.says;
      ends = tt;
    }

pub none_fails : {k : Kind} {end : ℕ} {before : List Located} {at : ℕ} → Barred k want before → at ≡ place_of end before → Failed k factor end before at
none_fails {before = before} b p = fails_after want [] before (truth_word true ∷ []) refl of_truth (λ d. refl) (λ d. omega arith) b p

pub no_sign_fails : {end : ℕ} {before rest : List Located} {p at : ℕ} {x : Operand} → before ≡ (p, operand x) ∷ rest → Barred transition want_sign rest → at ≡ place_of end rest → Failed transition factor end before at
no_sign_fails {rest = rest} {p = p} {x = x} e b q = fails_after want_sign ((p, operand x) ∷ []) rest (sign Equal ∷ operand x ∷ []) e of_comparison (λ d. refl) (λ d. omega arith) b q

pub no_operand_fails :
    {end : ℕ} {before rest : List Located} {p q at : ℕ} {x : Operand} {c : Comparison} →
    before ≡ (p, operand x) ∷ (q, sign c) ∷ rest → Barred transition want_operand rest → at ≡ place_of end rest → Failed transition factor end before at
no_operand_fails {rest = rest} {p = p} {q = q} {x = x} {c = c} e b i = fails_after want_operand ((p, operand x) ∷ (q, sign c) ∷ []) rest (operand x ∷ []) e of_comparison (λ d. refl) (λ d. omega arith) b i

pub not_fails : {k : Kind} {end : ℕ} {before mid : List Located} {p at : ℕ} → before ≡ (p, not_word) ∷ mid → Failed k factor end mid at → Failed k factor end before at
not_fails {p = p} e h = fails_in ((p, not_word) ∷ []) [] negation (λ ts t r. rw append-nil (of_not r)) (λ d. (d, omega arith, refl)) e h

pub open_fails : {k : Kind} {end : ℕ} {before mid : List Located} {p at : ℕ} → before ≡ (p, opening) ∷ mid → Failed k condition end mid at → Failed k factor end before at
open_fails {p = p} e h = fails_in ((p, opening) ∷ []) (closing ∷ []) (λ t. t) (λ ts t r. of_parentheses r) (λ d. (suc d, omega arith, refl)) e h

no_closing : (k : Kind) (last : List Located) → Ends condition last → heads is_closing last ≡ false → Barred k (λ d. have (suc d)) last
no_closing k [] e n = tt
no_closing k (t ∷ ts) e n = λ d. barred k t.1 e.0 e.1 n (suc d)

pub close_fails :
    {k : Kind} {means : Tree → Type 0} {end : ℕ} {before mid last : List Located} {p at : ℕ} →
    before ≡ (p, opening) ∷ mid → Done k condition means mid last → heads is_closing last ≡ false → at ≡ place_of end last → Failed k factor end before at
close_fails {k} {last = last} {p = p} e d n i =
    fails_after (λ m. have (suc m)) ((p, opening) ∷ d.used) last (closing ∷ []) (e ∙ ap (λ ts. (p, opening) ∷ ts) d.split) (of_parentheses d.reads) (λ m. runs d.reads (suc m)) (λ m. omega arith)
    (no_closing k last d.ends n) i
