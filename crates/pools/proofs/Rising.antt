-- What a take leaves stood in the pool before it, so no later take gives an element that comes before an earlier one.
use Rattle.std.proofs.Common.{◌≡◌, ℕ, zero, suc, ◌<◌, List, [], ◌∷◌, ◌++◌, length, get_or, take, drop, sym, refl, subst, arith}
use Rattle.std.specs.List.{remove, AllByRecursion}
use Rattle.std.specs.List.Sorted.{IsPermutation}
use Rattle.std.proofs.ByRecursion.{All-get_or, All-from_get_or, All-take, All-drop, All-append}
use Rattle.std.proofs.lemmas.List.Sorted.{IsPermutation-refl, IsPermutation-cons, IsPermutation-swap, IsPermutation-trans}
use Rattle.pools.specs.declared.held.Pool.{Pool}
use Rattle.pools.specs.Contents.{contents}
use Rattle.pools.specs.Least.{OutAt, LeastOut}
use Rattle.pools.specs.Takes.{Takes, ended, gave, refused, Rising, TakenComeRising, TakesLoseNothing}

-- what holds of each element of a list holds of the one that is taken out, and of the others
out_all : {X : Type 0} (P : X → Type 0) (xs ys : List X) (at : ℕ) (x : X) → OutAt xs at x ys → AllByRecursion P xs → P x × AllByRecursion P ys
out_all P xs ys at x out all =
    (subst P (sym out.stood) (All-get_or P xs at x out.within all), rw out.rest_is (All-append P (take at xs) (drop (suc at) xs) (All-take P at xs all) (All-drop P (suc at) xs all)))

none_before : {X : Type 0} (before : X → X → Type 0) (xs ys : List X) (x : X) → LeastOut before xs x ys → AllByRecursion (λ y. before y x → ⊥) xs
none_before before xs ys x t = All-from_get_or (λ y. before y x → ⊥) xs x (λ k l. t.least k x l)

given_all : {X : Type 0} (before : X → X → Type 0) (P : X → Type 0) {p : Pool X} {xs : List X} {q : Pool X} → Takes before p xs q → AllByRecursion P (contents p) → AllByRecursion P xs
given_all before P (ended p) all = tt
given_all before P (gave p m q x xs t rest) all =
    let both = out_all P (contents p) (contents m) t.least_out.at x t.least_out.out all in
    (both.0, given_all before P rest both.1)
given_all before P (refused p m q e xs t rest) all = given_all before P rest (rw t.1.pool_is all)

rising : {X : Type 0} (before : X → X → Type 0) {p : Pool X} {xs : List X} {q : Pool X} → Takes before p xs q → Rising before xs
rising before (ended p) i j d l within = absurd (omega arith)
rising before (gave p m q x xs t rest) zero zero d l within = absurd (omega arith)
rising before (gave p m q x xs t rest) (suc i) zero d l within = absurd (omega arith)
rising {X} before (gave p m q x xs t rest) zero (suc j) d l within =
    let P : X → Type 0 = λ y. before y x → ⊥ in
    let left = out_all P (contents p) (contents m) t.least_out.at x t.least_out.out (none_before before (contents p) (contents m) x t.least_out) in
    All-get_or P xs j d (omega arith) (given_all before P rest left.1)
rising before (gave p m q x xs t rest) (suc i) (suc j) d l within = rising before rest i j d (omega arith) (omega arith)
rising before (refused p m q e xs t rest) i j d l within = rising before rest i j d l within

pub taken_come_rising : {X : Type 0} (before : X → X → Type 0) → TakenComeRising before
taken_come_rising before p q xs t = rising before t

-- the element that is taken out, followed by the others, has the elements of the list
out_shuffled : {X : Type 0} (xs : List X) (at : ℕ) (x : X) → at < length xs → x ≡ get_or xs at x → IsPermutation xs (x ∷ remove xs at)
out_shuffled [] at x l e = absurd (omega arith)
out_shuffled (y ∷ ys) zero x l e = rw e (IsPermutation-refl (y ∷ ys))
out_shuffled (y ∷ ys) (suc at) x l e =
    IsPermutation-trans (y ∷ ys) (y ∷ x ∷ remove ys at) (x ∷ y ∷ remove ys at)
    (IsPermutation-cons y ys (x ∷ remove ys at) (out_shuffled ys at x (omega arith) e))
    (IsPermutation-swap (y ∷ x ∷ remove ys at) (x ∷ y ∷ remove ys at) 0 1 (omega arith) (omega arith) refl)

shuffled : {X : Type 0} (before : X → X → Type 0) {p : Pool X} {xs : List X} {q : Pool X} → Takes before p xs q → IsPermutation (contents p) (xs ++ contents q)
shuffled before (ended p) = IsPermutation-refl (contents p)
shuffled before (gave p m q x xs t rest) =
    let out = t.least_out.out in
    let first : IsPermutation (contents p) (x ∷ contents m) = rw out.rest_is (out_shuffled (contents p) t.least_out.at x out.within out.stood) in
    IsPermutation-trans (contents p) (x ∷ contents m) (x ∷ xs ++ contents q) first (IsPermutation-cons x (contents m) (xs ++ contents q) (shuffled before rest))
shuffled before (refused p m q e xs t rest) = rw t.1.pool_is at (shuffled before rest)

pub takes_lose_nothing : {X : Type 0} (before : X → X → Type 0) → TakesLoseNothing before
takes_lose_nothing before p q xs t = shuffled before t
