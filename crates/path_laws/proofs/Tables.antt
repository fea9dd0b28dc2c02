-- Tables: rows joined with another row one by one, and pairs collected from items.
use Rattle.std.proofs.Common.{◌≡◌, ℕ, ◌+◌, Bool, true, false, ◌||◌, ◌⊎◌, Decides, sym, refl, ◌∙◌, subst, inl, inr, ⊎_elim, arith}
use Rattle.std.proofs.lemmas.Bool.{cases_eq, both_ways, or_cases, or_left, or_right}
use Rattle.path_laws.specs.Tables.{Joins, Collects}

pub joins_none : (k : ℕ) (t : ℕ → ℕ → Bool) → Joins 0 k t t
joins_none k t = record { joined = λ a b l. absurd (omega arith); rest = λ a b l. refl }

module _ (k a : ℕ) (t u : ℕ → ℕ → Bool) (j : Joins a k t u) where
  abbrev Row : (ℕ → ℕ → Bool) → ℕ → ℕ → Type 0
  Row v x b = Decides (v x b) ((t x b ≡ true) ⊎ ((t x k ≡ true) × (t k b ≡ true)))

  more : (v : ℕ → ℕ → Bool) → ((b : ℕ) → Row v a b) → ((x b : ℕ) → (x ≡ a → ⊥) → v x b ≡ u x b) → Joins (a + 1) k t v
  more v here other = record {
    joined = λ x b l. ⊎_elim
        (λ e. subst (λ (y : ℕ). Row v y b) (sym e) (here b))
        (λ ne. subst (λ r. Decides r ((t x b ≡ true) ⊎ ((t x k ≡ true) × (t k b ≡ true)))) (sym (other x b ne)) (j.joined x b (omega arith)))
        (cases_eq x a);
    rest = λ x b l. other x b (λ e. absurd (omega arith)) ∙ j.rest x b (omega arith);
  }

  -- a row that has k is joined with row k
  pub joins_row : (v : ℕ → ℕ → Bool) → u a k ≡ true → ((b : ℕ) → v a b ≡ (u a b || t k b)) → ((x b : ℕ) → (x ≡ a → ⊥) → v x b ≡ u x b) → Joins (a + 1) k t v
  joins_row v has_k here other = more v row other
    where
      stays : (b : ℕ) → u a b ≡ t a b
      stays b = j.rest a b (omega arith)

      row : (b : ℕ) → Row v a b
      row b = (
        λ h. ⊎_elim (λ x. inl (sym (stays b) ∙ x)) (λ x. inr (sym (stays k) ∙ has_k, x)) (or_cases (u a b) (t k b) (sym (here b) ∙ h)),
        λ h. here b ∙ ⊎_elim (λ x. or_left (u a b) (t k b) (stays b ∙ x)) (λ x. or_right (u a b) (t k b) x.1) h,
      )

  -- a row that has not stays
  pub joins_past : u a k ≡ false → Joins (a + 1) k t u
  joins_past lacks_k = more u row (λ x b ne. refl)
    where
      row : (b : ℕ) → Row u a b
      row b = (
        λ h. inl (sym (j.rest a b (omega arith)) ∙ h),
        λ h. ⊎_elim (λ x. j.rest a b (omega arith) ∙ x) (λ x. absurd (both_ways (u a k) lacks_k (j.rest a k (omega arith) ∙ x.0))) h,
      )

module _ (Makes : ℕ → ℕ → ℕ → Type 0) where
  pub collects_none : (t : ℕ → ℕ → Bool) → ((a b : ℕ) → t a b ≡ false) → Collects Makes 0 t
  collects_none t none a b = (λ h. absurd (both_ways (t a b) (none a b) h), λ h. absurd (omega (arith, h.1)))

  -- item i adds the pairs that it makes
  pub collects_more : (i : ℕ) (t u : ℕ → ℕ → Bool) → Collects Makes i t → ((a b : ℕ) → Decides (u a b) ((t a b ≡ true) ⊎ Makes i a b)) → Collects Makes (i + 1) u
  collects_more i t u c adds a b = (
    λ h. ⊎_elim (λ old. let k = (c a b).0 old in (k.0, omega (arith, k.1), k.2)) (λ new. (i, omega arith, new)) ((adds a b).0 h),
    λ h. (adds a b).1 (⊎_elim (λ e. inr (subst (λ (k : ℕ). Makes k a b) e h.2)) (λ ne. inl ((c a b).1 (h.0, omega (arith, h.1, ne), h.2))) (cases_eq h.0 i)),
  )

  -- item i makes none
  pub collects_past : (i : ℕ) (t : ℕ → ℕ → Bool) → Collects Makes i t → ((a b : ℕ) → Makes i a b → ⊥) → Collects Makes (i + 1) t
  collects_past i t c none = collects_more i t t c (λ a b. (λ h. inl h, λ h. ⊎_elim (λ old. old) (λ new. absurd (none a b new)) h))
