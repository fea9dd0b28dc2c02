-- The links into an activity.
use Rattle.std.proofs.Common.{◌≡◌, ℕ, suc, ◌+◌, ◌<◌, true, false, ◌||◌, eqb, List, [], ◌∷◌, length, sym, refl, ap, ◌∙◌, ⊎_elim, arith}
use Rattle.std.proofs.lemmas.Bool.{cases_Bool, cond-true, cond-false, eqb-true, both_ways}
use Rattle.grammar.specs.Grammar.{member}
use Rattle.parts.specs.declared.Link.{Link}
use Rattle.path_laws.specs.Paths.{link_at}
use Rattle.rules.specs.Rules.{into}

-- a link into the activity, counted from k on
abbrev From : ℕ → List Link → ℕ → ℕ → Type 0
From k links a l = (j : ℕ) × (j < length links) × (l ≡ k + j) × ((link_at links j).target ≡ a)

later : (k : ℕ) (x : Link) (xs : List Link) (a l : ℕ) → From (suc k) xs a l → From k (x ∷ xs) a l
later k x xs a l r = (suc r.0, omega (arith, r.1), omega (arith, r.2), r.3)

-- what is listed is one
into_from : (k : ℕ) (links : List Link) (a l : ℕ) → member l (into k links a) ≡ true → From k links a l
into_from k [] a l m = absurd (both_ways false refl m)
into_from k (x ∷ xs) a l m =
    let on : member l (into (suc k) xs a) ≡ true → From k (x ∷ xs) a l = λ n. later k x xs a l (into_from (suc k) xs a l n) in
    ⊎_elim
    (λ t.
    let here = ap (member l) (cond-true (eqb x.target a) (k ∷ into (suc k) xs a) (into (suc k) xs a) t) in
    ⊎_elim
    (λ e. (0, omega arith, omega (arith, eqb-true l k e), eqb-true x.target a t))
    (λ ne. on (sym (ap (λ b. b || member l (into (suc k) xs a)) ne) ∙ sym here ∙ m))
    (cases_Bool (eqb l k)))
    (λ f. on (sym (ap (member l) (cond-false (eqb x.target a) (k ∷ into (suc k) xs a) (into (suc k) xs a) f)) ∙ m))
    (cases_Bool (eqb x.target a))

pub into_leads : (links : List Link) (a l : ℕ) → member l (into 0 links a) ≡ true → (l < length links) × ((link_at links l).target ≡ a)
into_leads links a l m =
    let r = into_from 0 links a l m in
    let same : l ≡ r.0 = omega (arith, r.2) in
    (omega (arith, r.1), ap (λ (j : ℕ). (link_at links j).target) same ∙ r.3)
