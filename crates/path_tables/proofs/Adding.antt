-- Pairs that are added one by one.
use Rattle.std.proofs.Common.{◌≡◌, ℕ, ◌<◌, true, ◌⊎◌, List, length, Decides, sym, inl, inr, ⊎_elim, arith}
use Rattle.std.proofs.lemmas.Bool.Decides.{Decides-like}
use Rattle.parts.specs.declared.Link.{Link}
use Rattle.path_laws.specs.Paths.{Linked, Leads}
use Rattle.path_laws.specs.Tables.{Collects}
use Rattle.path_tables.specs.declared.pairs.ActivityPairs.{ActivityPairs}
use Rattle.path_tables.specs.Pairs.{paired, OnePairMore}

-- a pair of numbers below 32 is added
pub pair_added : (p q : ActivityPairs) (a b : ℕ) → OnePairMore p a b q → a < 32 → b < 32 → (x y : ℕ) → Decides (paired q x y) ((paired p x y ≡ true) ⊎ ((a ≡ x) × (b ≡ y)))
pair_added p q a b more l m x y =
    Decides-like (paired q x y)
    (⊎_elim (λ old. inl old) (λ new. inr (sym new.0, sym new.1)))
    (⊎_elim (λ old. inl old) (λ new. inr (sym new.0, sym new.1, omega (arith, new.0, l), omega (arith, new.1, m))))
    (more x y)

-- the ends of all links
pub linked_pairs : (links : List Link) (p : ActivityPairs) → Collects (Leads links) (length links) (paired p) → (a b : ℕ) → Decides (paired p a b) (Linked links a b)
linked_pairs links p c a b =
    Decides-like (paired p a b)
    (λ h. record { number = h.0; within = h.1; source_is = h.2.0; target_is = h.2.1 })
    (λ s. (s.number, s.within, (s.source_is, s.target_is)))
    (c a b)
