-- How a reader of symbols steps over what the grammar reads.
use Rattle.std.proofs.Common.{◌≡◌, ℕ, suc, ◌≤◌, cond, List, [], ◌∷◌, ◌++◌, refl, ap, ◌∙◌, append_assoc, arith}
use mathlib.Core.Path.{subst⁻¹}
use Rattle.grammar.specs.Symbols.{Symbol, or_word, and_word, closing}
use Rattle.grammar.specs.Grammar.{Kind, Tree, Level, Reads, one_term, or_term, one_factor, and_factor, of_not, of_parentheses, of_truth, of_comparison, of_link}
use Rattle.grammar.specs.Parsing.{State, want, have, dead, step, feed, Pending, Stops}

pub feed_append : (k : Kind) (s : State) (xs ys : List Symbol) → feed k s (xs ++ ys) ≡ feed k (feed k s xs) ys
feed_append k s [] ys = refl
feed_append k s (x ∷ xs) ys = feed_append k (step k s x) xs ys

pub feed_dead : (k : Kind) (xs : List Symbol) → feed k dead xs ≡ dead
feed_dead k [] = refl
feed_dead k (x ∷ xs) = feed_dead k xs

-- from a state that these symbols lead to, the next ones lead on
pub feed_from : (k : Kind) (s : State) {m : State} (xs ys : List Symbol) → feed k s xs ≡ m → feed k s (xs ++ ys) ≡ feed k m ys
feed_from k s xs ys e = feed_append k s xs ys ∙ ap (λ q. feed k q ys) e

-- a part of any level leads from wanting a factor to having one
pub runs : {k : Kind} {l : Level} {ts : List Symbol} {t : Tree} → Reads k l ts t → (d : ℕ) → feed k (want d) ts ≡ have d
runs (one_term r) d = runs r d
runs (or_term {ts = us} {us = vs} p q) d = feed_from _ (want d) us (or_word ∷ vs) (runs p d) ∙ runs q d
runs (one_factor r) d = runs r d
runs (and_factor {ts = us} {us = vs} p q) d = feed_from _ (want d) us (and_word ∷ vs) (runs p d) ∙ runs q d
runs (of_not r) d = runs r d
runs (of_parentheses {ts = us} r) d = feed_from _ (want (suc d)) us (closing ∷ []) (runs r (suc d))
runs of_truth d = refl
runs of_comparison d = refl
runs (of_link m) d = ap (λ b. cond b (have d) dead) m

weaker : (d e : ℕ) (s : State) → d ≤ e → Pending e s → Pending d s
weaker d e dead l h = h
weaker d e _ l h = omega arith

-- what stops in a part stops in the whole, if what comes before the part leads to where it begins
pub later : (k : Kind) (d : ℕ) {e : ℕ} (front used rest : List Symbol) → d ≤ e → feed k (want d) front ≡ want e → Stops k e used rest → Stops k d (front ++ used) rest
later k d {e} front used [] l r h = subst⁻¹ (Pending d) (feed_from k (want d) front used r) (weaker d e (feed k (want e) used) l h)
later k d {e} front used (b ∷ bs) l r h = ap (feed k (want d)) (append_assoc front used (b ∷ [])) ∙ feed_from k (want d) front (used ++ b ∷ []) r ∙ h
