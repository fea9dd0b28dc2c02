-- Lemmas on longest runs.
use Rattle.std.proofs.Common.{◌≡◌, ℕ, suc, ◌+◌, ◌<◌, ◌≤◌, Bool, true, false, List, [], ◌∷◌, ◌++◌, length, get_or, take, drop, ap, refl, cond, ◌∙◌, arith}
use Rattle.std.proofs.lemmas.List.{drop_all, drop_more, get_or_past}
use Rattle.std.proofs.lemmas.List.Sums.{prefix_len-le-length}
use Rattle.std.proofs.lemmas.Bool.{cond-true, cond-false, cond_both}
use Rattle.std.specs.List.{AllByRecursion, prefix_len}
use Rattle.tokens.specs.Tokens.{span}

-- a span is what the library calls the length of a prefix
pub span_prefix : (f : ℕ → Bool) (xs : List ℕ) → prefix_len f xs ≡ span f xs
span_prefix f [] = refl
span_prefix f (x ∷ xs) = ap (λ n. cond (f x) n 0) (omega (arith, span_prefix f xs))

pub span_more : (f : ℕ → Bool) (xs : List ℕ) (i : ℕ) → i < length xs → f (get_or xs i 0) ≡ true → span f (drop i xs) ≡ suc (span f (drop (i + 1) xs))
span_more f xs i h e = ap (span f) (drop_more xs i 0 h) ∙ cond-true _ _ _ e

pub span_stop : (f : ℕ → Bool) (xs : List ℕ) (i : ℕ) → i < length xs → f (get_or xs i 0) ≡ false → span f (drop i xs) ≡ 0
span_stop f xs i h e = ap (span f) (drop_more xs i 0 h) ∙ cond-false _ _ _ e

pub span_end : (f : ℕ → Bool) (xs : List ℕ) (i : ℕ) → length xs ≤ i → span f (drop i xs) ≡ 0
span_end f xs i h = ap (span f) (drop_all i xs h)

pub span_le : (f : ℕ → Bool) (xs : List ℕ) → span f xs ≤ length xs
span_le f xs = omega (arith, span_prefix f xs, prefix_len-le-length f xs)

pub first_past : (xs : List ℕ) → length xs < 1 → get_or xs 0 0 ≡ 0
first_past xs h = get_or_past xs 0 0 (omega arith)

pub second_past : (xs : List ℕ) → length xs < 2 → get_or xs 1 0 ≡ 0
second_past xs h = get_or_past xs 1 0 (omega arith)

pub span_whole : (f : ℕ → Bool) (w rest : List ℕ) → AllByRecursion (λ b. f b ≡ true) w → span f rest ≡ 0 → span f (w ++ rest) ≡ length w
span_whole f [] rest all stop = stop
span_whole f (b ∷ w) rest all stop = cond-true (f b) _ 0 all.0 ∙ ap suc (span_whole f w rest all.1 stop)

pub span_passes : (f : ℕ → Bool) (xs : List ℕ) → AllByRecursion (λ b. f b ≡ true) (take (span f xs) xs)
span_passes f [] = tt
span_passes f (x ∷ xs) = cond_both (f x) (suc (span f xs)) 0 (λ n. AllByRecursion (λ b. f b ≡ true) (take n (x ∷ xs))) (λ e. (e, span_passes f xs)) (λ _. tt)
