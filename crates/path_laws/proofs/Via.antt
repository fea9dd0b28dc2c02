-- Paths whose inner activities are below a number.
use Rattle.std.proofs.Common.{◌≡◌, ℕ, ◌+◌, ◌<◌, Bool, true, ◌⊎◌, List, Decides, sym, ◌∙◌, subst, inl, inr, ⊎_elim, arith}
use Rattle.std.proofs.lemmas.Bool.{cases_eq, cases_lt}
use Rattle.std.proofs.lemmas.Bool.Decides.{Decides-like}
use Rattle.parts.specs.declared.Link.{Link}
use Rattle.path_laws.specs.Paths.{Linked, Reaches, by_link, and_on, EndsBelow}
use Rattle.path_laws.specs.Tables.{Joins}
use Rattle.path_laws.proofs.Paths.{reaches_on}

-- a link, or paths to and from an inner activity below k
pub data Via (links : List Link) (k : ℕ) : ℕ → ℕ → Type 0 where
  direct : {a b : ℕ} → Linked links a b → Via links k a b
  through : {a m b : ℕ} → m < k → Via links k a m → Via links k m b → Via links k a b

-- one inner activity more: it is passed, or it is not
abbrev pub Passes : List Link → ℕ → ℕ → ℕ → Type 0
Passes links k a b = Via links k a b ⊎ (Via links k a k × Via links k k b)

module _ {links : List Link} where
  pub via_none : {a b : ℕ} → Via links 0 a b → Linked links a b
  via_none (direct s) = s
  via_none (through l p q) = absurd (omega arith)

  via_more : {k a b : ℕ} → Via links k a b → Via links (k + 1) a b
  via_more (direct s) = direct s
  via_more (through l p q) = through (omega (arith, l)) (via_more p) (via_more q)

  passes_on : {k a m b : ℕ} → m < k → Passes links k a m → Passes links k m b → Passes links k a b
  passes_on l (inl p) (inl q) = inl (through l p q)
  passes_on l (inl p) (inr q) = inr (through l p q.0, q.1)
  passes_on l (inr p) (inl q) = inr (p.0, through l p.1 q)
  passes_on l (inr p) (inr q) = inr (p.0, q.1)

  passes_at : {k a b : ℕ} → Passes links k a k → Passes links k k b → Passes links k a b
  passes_at (inl p) (inl q) = inr (p, q)
  passes_at (inl p) (inr q) = inr (p, q.1)
  passes_at (inr p) (inl q) = inr (p.0, q)
  passes_at (inr p) (inr q) = inr (p.0, q.1)

  pub via_passes : {k a b : ℕ} → Via links (k + 1) a b → Passes links k a b
  via_passes (direct s) = inl (direct s)
  via_passes {k} (through {a} {m} {b} l p q) =
      let first = via_passes p in
      let second = via_passes q in
      ⊎_elim
      (λ e. passes_at (subst (λ (x : ℕ). Passes links k a x) e first) (subst (λ (x : ℕ). Passes links k x b) e second))
      (λ ne. let below : m < k = omega (arith, l, ne) in passes_on below first second)
      (cases_eq m k)

  pub passes_via : {k a b : ℕ} → Passes links k a b → Via links (k + 1) a b
  passes_via (inl p) = via_more p
  passes_via {k} (inr p) = through (omega arith) (via_more p.0) (via_more p.1)

  pub via_reaches : {k a b : ℕ} → Via links k a b → Reaches links a b
  via_reaches (direct s) = by_link s
  via_reaches (through l p q) = reaches_on (via_reaches p) (via_reaches q)

  pub reaches_via : {n a b : ℕ} → EndsBelow links n → Reaches links a b → Via links n a b
  reaches_via ends (by_link s) = direct s
  reaches_via {n} ends (and_on p s) = through (subst (λ (x : ℕ). x < n) s.source_is (ends s.number s.within).0) (reaches_via ends p) (direct s)

  -- a path begins at an activity
  via_begins : {n k a b : ℕ} → EndsBelow links n → Via links k a b → a < n
  via_begins {n} ends (direct s) = subst (λ (x : ℕ). x < n) s.source_is (ends s.number s.within).0
  via_begins ends (through l p q) = via_begins ends p

-- a table of pairs shows the paths so far
abbrev pub Tabled : List Link → ℕ → (ℕ → ℕ → Bool) → Type 0
Tabled links k t = (a b : ℕ) → Decides (t a b) (Via links k a b)

module _ (links : List Link) (n : ℕ) (ends : EndsBelow links n) where
  pub tabled_links : (t : ℕ → ℕ → Bool) → ((a b : ℕ) → Decides (t a b) (Linked links a b)) → Tabled links 0 t
  tabled_links t h a b = Decides-like (t a b) direct via_none (h a b)

  pub tabled_round : (k : ℕ) (t u : ℕ → ℕ → Bool) → Tabled links k t → Joins n k t u → Tabled links (k + 1) u
  tabled_round k t u s j a b =
      let passes : (t a b ≡ true) ⊎ ((t a k ≡ true) × (t k b ≡ true)) → Passes links k a b = ⊎_elim (λ x. inl ((s a b).0 x)) (λ x. inr ((s a k).0 x.0, (s k b).0 x.1)) in
      let shown : Passes links k a b → (t a b ≡ true) ⊎ ((t a k ≡ true) × (t k b ≡ true)) = ⊎_elim (λ p. inl ((s a b).1 p)) (λ p. inr ((s a k).1 p.0, (s k b).1 p.1)) in
      ⊎_elim
      (λ l. Decides-like (u a b) (λ x. passes_via (passes x)) (λ p. shown (via_passes p)) (j.joined a b l))
      (λ ge. (λ x. via_more ((s a b).0 (sym (j.rest a b ge) ∙ x)), λ p. absurd (omega (arith, ge, via_begins ends p))))
      (cases_lt a n)

  pub tabled_reaches : (t : ℕ → ℕ → Bool) → Tabled links n t → (a b : ℕ) → Decides (t a b) (Reaches links a b)
  tabled_reaches t s a b = Decides-like (t a b) via_reaches (reaches_via ends) (s a b)
