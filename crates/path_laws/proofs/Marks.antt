-- How many marks there are.
use Rattle.std.proofs.Common.{◌≡◌, ℕ, zero, suc, ◌+◌, ◌<◌, ◌≤◌, Bool, true, false, cond, not, List, [], ◌∷◌, length, get_or, set, replicate, sum_by, sym, refl, ap, ◌∙◌, ⊎_elim, arith}
use Rattle.std.proofs.lemmas.List.{get_or-set_same, get_or-set_other, get_or-replicate, get_or_past, length-replicate, set_past}
use Rattle.std.proofs.lemmas.List.Sums.{sum_by-set, sum_by-cons}
use Rattle.std.proofs.lemmas.Bool.{cases_eq, cases_lt, cases_Bool}
use Rattle.path_laws.specs.Marks.{marked, unmarked}

one_if_not : Bool → ℕ
one_if_not b = cond (not b) 1 0

unmarked_cons : (b : Bool) (bs : List Bool) → unmarked (b ∷ bs) ≡ one_if_not b + unmarked bs
unfolding one_if_not
unmarked_cons b bs = sum_by-cons (λ b. cond (not b) 1 0) b bs

one_at_true : one_if_not true ≡ 0
unfolding one_if_not
one_at_true = refl

one_at_false : one_if_not false ≡ 1
unfolding one_if_not
one_at_false = refl

pub none_marked : (n k : ℕ) → marked (replicate n false) k ≡ false
none_marked n k = ⊎_elim (λ l. get_or-replicate n k false false l) (λ l. get_or_past (replicate n false) k false (rw length-replicate l)) (cases_lt k n)

pub all_unmarked : (n : ℕ) → unmarked (replicate n false) ≡ n
all_unmarked zero = refl
all_unmarked (suc n) = omega (arith, all_unmarked n, unmarked_cons false (replicate n false), one_at_false)

pub mark_fewer : (marks : List Bool) (a : ℕ) → a < length marks → marked marks a ≡ false → unmarked (set marks a true) + 1 ≡ unmarked marks
mark_fewer marks a l e =
    let f : Bool → ℕ = λ b. cond (not b) 1 0 in
    let h : sum_by f (set marks a true) + f (get_or marks a false) ≡ sum_by f marks + 0 = sum_by-set f marks a true false l in
    let one : f (get_or marks a false) ≡ 1 = ap f e in
    omega (arith, h, one)

-- a number that is marked again leaves as many
mark_again : (marks : List Bool) (a : ℕ) → a < length marks → marked marks a ≡ true → unmarked (set marks a true) ≡ unmarked marks
mark_again marks a l e =
    let f : Bool → ℕ = λ b. cond (not b) 1 0 in
    let h : sum_by f (set marks a true) + f (get_or marks a false) ≡ sum_by f marks + 0 = sum_by-set f marks a true false l in
    let none : f (get_or marks a false) ≡ 0 = ap f e in
    omega (arith, h, none)

pub mark_one_fewer : (marks : List Bool) (a : ℕ) → unmarked marks ≤ unmarked (set marks a true) + 1
mark_one_fewer marks a =
    ⊎_elim
    (λ l. ⊎_elim (λ t. omega (arith, mark_again marks a l t)) (λ f. omega (arith, mark_fewer marks a l f)) (cases_Bool (marked marks a)))
    (λ past. omega (arith, ap unmarked (set_past marks a true past)))
    (cases_lt a (length marks))

pub some_unmarked : (marks : List Bool) → 0 < unmarked marks → (a : ℕ) × (a < length marks) × (marked marks a ≡ false)
some_unmarked [] h = absurd (omega arith)
some_unmarked (true ∷ bs) h = let r = some_unmarked bs (omega (arith, unmarked_cons true bs, one_at_true)) in (suc r.0, omega (arith, r.1), r.2)
some_unmarked (false ∷ bs) h = (0, omega arith, refl)

pub all_marked : (marks : List Bool) → unmarked marks ≡ 0 → (a : ℕ) → a < length marks → marked marks a ≡ true
all_marked marks none a l = ⊎_elim (λ t. t) (λ f. absurd (omega (arith, mark_fewer marks a l f))) (cases_Bool (marked marks a))

-- what is marked after one more mark
pub marked_more : (marks : List Bool) (a b : ℕ) → marked (set marks a true) b ≡ true → (b ≡ a → ⊥) → marked marks b ≡ true
marked_more marks a b m ne = sym (get_or-set_other marks a b true false ne) ∙ m

pub marked_kept : (marks : List Bool) (a b : ℕ) → b < length marks → marked marks b ≡ true → marked (set marks a true) b ≡ true
marked_kept marks a b l m =
    ⊎_elim
    (λ e. rw (← e) (get_or-set_same marks b true false l))
    (λ ne. get_or-set_other marks a b true false ne ∙ m)
    (cases_eq b a)
