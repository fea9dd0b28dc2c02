-- From one check to the next.
use Rattle.std.proofs.Common.{◌≡◌, ℕ, ◌+◌, ◌≤◌, [], get_or, sym, refl, ap, ◌∙◌, subst, inl, inr, ⊎_elim, arith}
use Rattle.std.proofs.lemmas.Bool.{cases_lt, cases_eq}
use Rattle.conditions.specs.Texts.{FaultPlace}
use Rattle.conditions.proofs.Whole.{one_verdict}
use Rattle.layout.specs.Layout.{Parts}
use Rattle.rules.specs.declared.refusal.RuleRefusal.{RuleRefusal}
use Rattle.rules.specs.declared.refusal.RuleRefusal.TheVariants.{Flags, NoEnd, Twice, Cycle, BadConnector, NoPath, BadText}
use Rattle.rules.specs.Rules.{Broken, kind_of_text, stage, turn, Clear, FirstBroken, OneRule}

-- two refusals of one stage and turn are the same, where both rules are broken: a text has one fault
pub same_turn : (p : Parts) (d e : RuleRefusal) → stage d ≡ stage e → turn d ≡ turn e → Broken p d → Broken p e → d ≡ e
same_turn p (Flags i) (Flags j) s t b c = ap Flags t
same_turn p (NoEnd i) (NoEnd j) s t b c = ap NoEnd (omega arith)
same_turn p (Twice i) (Twice j) s t b c = ap Twice (omega arith)
same_turn p (Cycle i) (Cycle j) s t b c = ap Cycle t
same_turn p (BadConnector i) (BadConnector j) s t b c = ap BadConnector (omega arith)
same_turn p (NoPath i) (NoPath j) s t b c = ap NoPath (omega arith)
same_turn p (BadText i r) (BadText j q) s t b c =
    let one = (one_verdict (get_or p.texts j [])).one_fault (kind_of_text p.links j) r q (subst (λ k. FaultPlace (kind_of_text p.links k) (get_or p.texts k []) r) t b.1) c.1 in
    λ z. BadText (t z) (one z)
same_turn p d e s t b c = absurd (omega arith)

-- one turn more
pub next_clear : (p : Parts) (e e' : RuleRefusal) → stage e' ≡ stage e → turn e' ≡ turn e + 1 → Clear p e → ((d : RuleRefusal) → stage d ≡ stage e → turn d ≡ turn e → Broken p d → ⊥) → Clear p e'
next_clear p e e' s t clear fine d b h =
    ⊎_elim
    (λ l. clear d (inl (omega (arith, l, s))) h)
    (λ z. ⊎_elim (λ eq. fine d (z.0 ∙ s) eq h) (λ ne. clear d (inr (z.0 ∙ s, omega (arith, z.1, t, ne))) h) (cases_eq (turn d) (turn e)))
    b

-- the end of a stage
pub stage_clear : (p : Parts) (e e' : RuleRefusal) → stage e' ≡ stage e + 1 → turn e' ≡ 0 → Clear p e → ((d : RuleRefusal) → stage d ≡ stage e → turn e ≤ turn d → Broken p d → ⊥) → Clear p e'
stage_clear p e e' s t clear rest d b h =
    ⊎_elim
    (λ l. ⊎_elim
    (λ eq. ⊎_elim (λ lt. clear d (inr (eq, lt)) h) (λ ge. rest d eq ge h) (cases_lt (turn d) (turn e)))
    (λ ne. clear d (inl (omega (arith, l, s, ne))) h)
    (cases_eq (stage d) (stage e)))
    (λ z. absurd (omega (arith, z.1, t)))
    b

pub one_first : (p : Parts) (d e : RuleRefusal) → FirstBroken p d → FirstBroken p e → d ≡ e
one_first p d e f g =
    ⊎_elim
    (λ l. absurd (g.1 d (inl l) f.0))
    (λ ge. ⊎_elim
    (λ l. absurd (f.1 e (inl l) g.0))
    (λ ge'.
    let s : stage d ≡ stage e = omega arith in
    ⊎_elim
    (λ l. absurd (g.1 d (inr (s, l)) f.0))
    (λ le. ⊎_elim (λ l. absurd (f.1 e (inr (sym s, l)) g.0)) (λ le'. same_turn p d e s (omega arith) f.0 g.0) (cases_lt (turn e) (turn d)))
    (cases_lt (turn d) (turn e)))
    (cases_lt (stage e) (stage d)))
    (cases_lt (stage d) (stage e))

pub one_rule : (p : Parts) → OneRule p
one_rule p = record { one_first = one_first p; not_both = λ e keeps first. keeps e first.0 }

-- one text more is without a fault
pub text_clear : (p : Parts) (i : ℕ) → Clear p (BadText i 0) → ((place : ℕ) → Broken p (BadText i place) → ⊥) → Clear p (BadText (i + 1) 0)
text_clear p i clear fine = next_clear p (BadText i 0) (BadText (i + 1) 0) refl refl clear here
  where
    here : (d : RuleRefusal) → stage d ≡ 5 → turn d ≡ i → Broken p d → ⊥
    here (BadText j q) s t b = fine q (subst (λ k. Broken p (BadText k q)) t b)
    here d s t b = omega arith
