-- Tables of pairs of activities.
use Rattle.std.specs.Prelude.{◌≡◌, ℕ, ◌<◌, ◌≤◌, Bool, true, ◌⊎◌, Decides}

-- each row below n that has k is joined with row k, and the others stay
pub record Joins (n k : ℕ) (t u : ℕ → ℕ → Bool) : Type 0 where
  pub joined : (a b : ℕ) → a < n → Decides (u a b) ((t a b ≡ true) ⊎ ((t a k ≡ true) × (t k b ≡ true)))
  pub rest : (a b : ℕ) → n ≤ a → u a b ≡ t a b

-- a table has the pairs that the first i items make
abbrev pub Collects : (ℕ → ℕ → ℕ → Type 0) → ℕ → (ℕ → ℕ → Bool) → Type 0
Collects Makes i t = (a b : ℕ) → Decides (t a b) ((k : ℕ) × (k < i) × Makes k a b)
