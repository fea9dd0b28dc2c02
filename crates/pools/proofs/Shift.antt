-- The elements behind a place, moved down by one.
use Rattle.std.proofs.Common.{◌≡◌, ℕ, suc, ◌+◌, ◌-◌, ◌<◌, ◌≤◌, List, length, take, drop, sym, ap, ap₂, ◌∙◌, ◌++◌, add-one, arith}
use Rattle.std.specs.List.{remove, copy_within}
use Rattle.std.proofs.lemmas.List.{take-take, drop-take, length-drop}
use Rattle.std.proofs.lemmas.List.Edits.{take-paste}

-- where those up to below n have moved, the first n - 1 are the first n without the place
pub moved_down : {X : Type 0} (xs : List X) (at n : ℕ) → at < n → n ≤ length xs → take (n - 1) (copy_within xs (at + 1) n at) ≡ remove (take n xs) at
moved_down xs at n l w =
    let m : ℕ = n - (at + 1) in
    let long : at + m ≡ n - 1 = omega arith in
    let whole : n ≡ suc at + m = omega arith in
    let behind : drop (suc at) (take n xs) ≡ take m (drop (at + 1) xs) = ap (λ k. drop (suc at) (take k xs)) whole ∙ drop-take (suc at) m xs ∙ ap (λ k. take m (drop k xs)) (sym (add-one at)) in
    ap (λ k. take k (copy_within xs (at + 1) n at)) (sym long)
    ∙ take-paste xs at (drop (at + 1) xs) m (omega arith) (omega (arith, length-drop (at + 1) xs))
    ∙ sym (ap₂ ◌++◌ (take-take at n xs (omega arith)) behind)
