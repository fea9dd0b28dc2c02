-- Whether there is a link or a path is decided.
use Rattle.std.proofs.Common.{◌≡◌, ℕ, zero, suc, ◌<◌, ◌≤◌, ◌⊎◌, List, length, subst, inl, inr, ⊎_elim, add-one, arith}
use Rattle.std.proofs.lemmas.Bool.{cases_eq}
use Rattle.parts.specs.declared.Link.{Link}
use Rattle.path_laws.specs.Paths.{link_at, Linked, Reaches, EndsBelow}
use Rattle.path_laws.proofs.Via.{Via, direct, Passes, via_none, via_passes, passes_via, via_reaches, reaches_via}

abbrev OrNot : Type 0 → Type 0
OrNot P = P ⊎ (P → ⊥)

module _ (links : List Link) where
  -- among the first i links
  linked_below : (a b i : ℕ) → i ≤ length links → Linked links a b ⊎ ((k : ℕ) → k < i → (link_at links k).source ≡ a → (link_at links k).target ≡ b → ⊥)
  linked_below a b zero h = inr (λ k l s t. omega arith)
  linked_below a b (suc i) h =
      ⊎_elim
      inl
      (λ none. ⊎_elim
      (λ s. ⊎_elim
      (λ t. inl (record { number = i; within = omega arith; source_is = s; target_is = t }))
      (λ nt. inr (λ k l s' t'. ⊎_elim (λ e. nt (subst (λ (x : ℕ). (link_at links x).target ≡ b) e t')) (λ ne. none k (omega arith) s' t') (cases_eq k i)))
      (cases_eq (link_at links i).target b))
      (λ ns. inr (λ k l s' t'. ⊎_elim (λ e. ns (subst (λ (x : ℕ). (link_at links x).source ≡ a) e s')) (λ ne. none k (omega arith) s' t') (cases_eq k i)))
      (cases_eq (link_at links i).source a))
      (linked_below a b i (omega arith))

  linked_or_not : (a b : ℕ) → OrNot (Linked links a b)
  linked_or_not a b = ⊎_elim inl (λ none. inr (λ l. none l.number l.within l.source_is l.target_is)) (linked_below a b (length links) (omega arith))

  passes_or_not : (k a b : ℕ) → OrNot (Via links k a b) → OrNot (Via links k a k) → OrNot (Via links k k b) → OrNot (Passes links k a b)
  passes_or_not k a b (inl v) to from = inl (inl v)
  passes_or_not k a b (inr nv) (inl v) (inl w) = inl (inr (v, w))
  passes_or_not k a b (inr nv) (inl v) (inr nw) = inr (⊎_elim nv (λ x. nw x.1))
  passes_or_not k a b (inr nv) (inr nw) from = inr (⊎_elim nv (λ x. nw x.0))

  via_or_not : (k a b : ℕ) → OrNot (Via links k a b)
  via_or_not zero a b = ⊎_elim (λ l. inl (direct l)) (λ no. inr (λ v. no (via_none v))) (linked_or_not a b)
  via_or_not (suc k) a b =
      subst (λ (n : ℕ). OrNot (Via links n a b)) (add-one k)
      (⊎_elim (λ p. inl (passes_via p)) (λ no. inr (λ v. no (via_passes v))) (passes_or_not k a b (via_or_not k a b) (via_or_not k a k) (via_or_not k k b)))

  pub reaches_or_not : (n : ℕ) → EndsBelow links n → (a b : ℕ) → OrNot (Reaches links a b)
  reaches_or_not n ends a b = ⊎_elim (λ v. inl (via_reaches v)) (λ no. inr (λ r. no (reaches_via ends r))) (via_or_not n a b)
