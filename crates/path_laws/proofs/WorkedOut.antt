-- One step of the order that is worked out.
use Rattle.std.proofs.Common.{◌≡◌, ℕ, zero, suc, ◌<◌, Bool, true, false, cond, ◌⊎◌, List, [], ◌∷◌, ◌++◌, Some, None, Option, refl, ap, ◌∙◌, inl, inr, ⊎_elim, arith}
use Rattle.std.proofs.lemmas.Bool.{cases_eq, cases_lt, both_ways}
use Rattle.parts.specs.declared.Link.{Link}
use Rattle.path_laws.specs.Ranks.{Ready, Least, is_ready, first_of, least_below, with_next, one_more}
use Rattle.path_laws.proofs.Listing.{ready_decides}

pub least_one : (P : ℕ → Type 0) (a b : ℕ) → Least P a → Least P b → a ≡ b
least_one P a b x y =
    ⊎_elim (λ l. absurd (y.1 a l x.0)) (λ ge. ⊎_elim (λ l. absurd (x.1 b l y.0)) (λ ge'. omega arith) (cases_lt b a)) (cases_lt a b)

abbrev pub Found : (ℕ → Bool) → ℕ → Option ℕ → Type 0
Found test n (Some a) = (a < n) × (test a ≡ true) × ((b : ℕ) → b < a → test b ≡ false)
Found test n None = (b : ℕ) → b < n → test b ≡ false

found_last : (test : ℕ → Bool) (n : ℕ) (t : Bool) → test n ≡ t → Found test n None → Found test (suc n) (cond t (Some n) None)
found_last test n true e none = (omega arith, e, none)
found_last test n false e none = λ b l. ⊎_elim (λ same. rw same e) (λ ne. none b (omega arith)) (cases_eq b n)

found_more : (test : ℕ → Bool) (n : ℕ) (o : Option ℕ) → Found test n o → Found test (suc n) (first_of o (cond (test n) (Some n) None))
found_more test n (Some a) f = (omega (arith, f.0), f.1, f.2)
found_more test n None f = found_last test n (test n) refl f

pub found : (test : ℕ → Bool) (n : ℕ) → Found test n (least_below test n)
found test zero = λ b l. absurd (omega arith)
found test (suc n) = found_more test n (least_below test n) (found test n)

module _ (count : ℕ) (links : List Link) (order : List ℕ) where
  -- the least that is ready is listed next, or none is ready
  abbrev pub Tells : List ℕ → Type 0
  Tells next = ((a : ℕ) × Least (Ready count links order) a × (next ≡ order ++ a ∷ [])) ⊎ (((a : ℕ) → Ready count links order a → ⊥) × (next ≡ order))

  tells : (o : Option ℕ) → Found (is_ready links order) count o → Tells (with_next order o)
  tells (Some a) f =
      inl (a, ((ready_decides count links order a f.0).0 f.1, λ b l r. both_ways (is_ready links order b) (f.2 b l) ((ready_decides count links order b r.activity).1 r)), refl)
  tells None f = inr (λ a r. both_ways (is_ready links order a) (f a r.activity) ((ready_decides count links order a r.activity).1 r), refl)

  pub one_more_tells : Tells (one_more count links order)
  one_more_tells = tells (least_below (is_ready links order) count) (found (is_ready links order) count)

  pub one_more_is : (a : ℕ) → Least (Ready count links order) a → one_more count links order ≡ order ++ a ∷ []
  one_more_is a l =
      ⊎_elim
      (λ h. h.2 ∙ ap (λ x. order ++ x ∷ []) (least_one (Ready count links order) h.0 a h.1 l))
      (λ h. absurd (h.0 a l.0))
      one_more_tells
