-- The place of a least element, found in one pass over a list.
use Rattle.std.proofs.Common.{◌≡◌, ℕ, ◌+◌, ◌<◌, List, length, get_or, arith, below_more}
use Rattle.std.proofs.lemmas.List.{get_or_read}
use Rattle.pools.specs.Least.{LeastAt, OutAt, LeastOut}

-- where the element x at i does not come before y, the least so far, y stays the least
pub least_kept : {X : Type 0} (before : X → X → Type 0) (xs : List X) (i at : ℕ) (x y : X) → LeastAt before xs i at → i < length xs → x ≡ get_or xs i x → y ≡ get_or xs at y → (before x y → ⊥) → LeastAt before xs (i + 1) at
least_kept {X} before xs i at x y h l ex ey not =
    let here : (d : X) → before (get_or xs i d) (get_or xs at d) → ⊥ = λ d. rw (← get_or_read xs i x l ex d, ← get_or_read xs at y (omega arith) ey d) not in
    (omega arith, λ k d. below_more (λ m. before (get_or xs m d) (get_or xs at d) → ⊥) i (λ m lt. h.1 m d lt) (here d) k)

-- where it does, x is the least
pub least_replaced : {X : Type 0} (before : X → X → Type 0) → ((x : X) → before x x → ⊥) → ((x y z : X) → before x y → before y z → before x z) → (xs : List X) (i at : ℕ) (x y : X) → LeastAt before xs i at → i < length xs → x ≡ get_or xs i x → y ≡ get_or xs at y → before x y → LeastAt before xs (i + 1) i
least_replaced {X} before irreflexive transitive xs i at x y h l ex ey less =
    let under : (d : X) → before (get_or xs i d) (get_or xs at d) = λ d. rw (← get_or_read xs i x l ex d, ← get_or_read xs at y (omega arith) ey d) less in
    (omega arith, λ k d. below_more (λ m. before (get_or xs m d) (get_or xs i d) → ⊥) i (λ m lt b. h.1 m d lt (transitive (get_or xs m d) (get_or xs i d) (get_or xs at d) b (under d))) (irreflexive (get_or xs i d)) k)

-- what is taken out at the place of a least element is a least element
pub least_out : {X : Type 0} (before : X → X → Type 0) (xs ys : List X) (at : ℕ) (x : X) → LeastAt before xs (length xs) at → OutAt xs at x ys → LeastOut before xs x ys
least_out before xs ys at x h out = record {
  at = at;
  out = out;
  least = λ k d l. rw (get_or_read xs at x out.within out.stood d) (h.1 k d l);
}
