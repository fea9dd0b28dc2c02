-- Outcomes in their places, elements as they are listed, and links with their statuses.
use Rattle.std.proofs.Common.{◌≡◌, ℕ, ◌+◌, ◌<◌, Bool, true, false, ◌||◌, eqb, List, [], ◌∷◌, ◌++◌, map, length, get_or, Some, Ok, Err, Option, Result, sym, refl, ap, ◌∙◌, subst, ⊎_elim, zero-add, arith}
use Rattle.std.specs.Prelude.{is_ok}
use Rattle.std.specs.List.{range_with_len}
use Rattle.std.proofs.ByRecursion.{All-weaker}
use Rattle.std.proofs.lemmas.List.{get_or_default}
use Rattle.std.proofs.lemmas.List.FromFn.{length-map-range_with_len, map-range_with_len_more}
use Rattle.std.proofs.lemmas.Bool.{cases_Bool, cond-true, cond-false, eqb-true, both_ways}
use Rattle.values.specs.declared.container.Container.{Container}
use Rattle.lists.specs.declared.list.BoundedList.{BoundedList}
use Rattle.lists.specs.declared.list.Full.{Full}
use Rattle.lists.specs.Lists.{items, PushAnswers}
use Rattle.grammar.specs.Grammar.{member}
use Rattle.parts.specs.declared.Link.{Link}
use Rattle.conditions.specs.declared.ground.Incoming.{Incoming}
use Rattle.conditions.specs.Values.{links_of, status_of}
use Rattle.rules.specs.Joins.{LinksListed, StatusesBy}
use Rattle.rules.specs.Rules.{into}
use Rattle.evaluation_laws.specs.declared.Outcome.{Outcome}
use Rattle.evaluation_laws.specs.declared.Outcome.TheVariants.{Skipped}
use Rattle.evaluation_laws.specs.Plans.{Plan}
use Rattle.evaluation_laws.specs.Evaluations.{input_of}
use Rattle.evaluation.specs.Flows.{valuation_of, HaveStatuses}
use Rattle.evaluation.specs.Evaluated.{input_by, given_input}

-- an outcome that was read at its place
pub outcome_read : (outcomes : List Outcome) (i j : ℕ) (o : Outcome) → i ≡ j → i < length outcomes → o ≡ get_or outcomes i o → valuation_of outcomes j ≡ o
outcome_read outcomes i j o e h is = ap (λ (n : ℕ). get_or outcomes n Skipped) (sym e) ∙ get_or_default outcomes i Skipped o h ∙ sym is

-- where the outcome that was read is o, so is the input
given_by : (p : Plan) (the_case : Container) (outcomes : List Outcome) (a : ℕ) (r o : Outcome) → a < 32 → length outcomes ≡ 32 → r ≡ get_or outcomes a r → r ≡ o → input_by o (input_of p the_case (valuation_of outcomes) a) ≡ given_input p the_case (valuation_of outcomes) a
given_by p the_case outcomes a r o h long is e = ap (λ (x : Outcome). input_by x (input_of p the_case (valuation_of outcomes) a)) (sym (outcome_read outcomes a a r refl (omega arith) is ∙ e))

-- a list that holds what f gives for the first i numbers, with room for n, and what f gives for the next
module _ {X : Type 0} (f : ℕ → X) (n i : ℕ) (xs ys : List X) (x : X) (so_far : xs ≡ map f (range_with_len 0 i)) (room : i < n) where
  long : length xs ≡ i
  long = ap length so_far ∙ length-map-range_with_len f 0 i

  pub push_succeeds : (r : Result (Unit {0}) Full) → PushAnswers n xs x ys r → is_ok r ≡ true
  push_succeeds (Ok u) p = refl
  push_succeeds (Err e) p = absurd (omega (arith, long, p.0))

  pub push_next : (r : Result (Unit {0}) Full) → x ≡ f i → PushAnswers n xs x ys r → ys ≡ map f (range_with_len 0 (i + 1))
  push_next (Ok u) is p = p.1 ∙ (λ j. so_far j ++ is j ∷ []) ∙ sym (map-range_with_len_more f 0 i i (zero-add i))
  push_next (Err e) is p = absurd (omega (arith, long, p.0))

pub listed_links : (links : List Link) (a : ℕ) (r : Option (BoundedList Incoming 128)) (l : BoundedList Incoming 128) → r ≡ Some l → LinksListed links a r → links_of (items l) ≡ into 0 links a
listed_links links a r l e h = subst (LinksListed links a) e h

-- the list has the statuses that s gives, where what gave them is s
pub listed_statuses : (Given : ℕ → Bool → Type 0) (s : ℕ → Bool) → ((k : ℕ) (b : Bool) → Given k b → b ≡ s k) → (r : Option (BoundedList Incoming 128)) (l : BoundedList Incoming 128) → r ≡ Some l → StatusesBy Given r → HaveStatuses s (items l)
listed_statuses Given s same r l e by = All-weaker (λ (i : Incoming). Given i.link i.status) (λ (i : Incoming). i.status ≡ s i.link) (λ i g. same i.link i.status g) (items l) (subst (StatusesBy Given) e by)

-- the status of a link that is there is the one it has
pub status_found : (s : ℕ → Bool) (links : List Incoming) (n : ℕ) → HaveStatuses s links → member n (links_of links) ≡ true → status_of links n ≡ s n
status_found s [] n all m = absurd (both_ways false refl m)
status_found s (l ∷ ls) n all m =
    ⊎_elim
    (λ t. cond-true (eqb n l.link) l.status (status_of ls n) t ∙ all.0 ∙ ap s (sym (eqb-true n l.link t)))
    (λ f. cond-false (eqb n l.link) l.status (status_of ls n) f ∙ status_found s ls n all.1 (sym (ap (λ b. b || member n (links_of ls)) f) ∙ m))
    (cases_Bool (eqb n l.link))
