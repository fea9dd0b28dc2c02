use Rattle.std.proofs.Common.{◌≡◌, ℕ, false, List, length, get_or, codes, inl, inr, ap, ◌∙◌, arith}
use mathlib.Core.Path.{subst⁻¹}
use Rattle.std.proofs.lemmas.Bool.{cond-false, cases_Bool}
use Rattle.std.proofs.lemmas.Slice.Eq.{bytes_eq-Decides}
use Rattle.std.specs.Str.{bytes_eq}
use Rattle.tokens.specs.Symbols.{Says}
use Rattle.tokens.specs.Words.{word_symbol, named, field_number, link_of}
use Rattle.tokens.proofs.symbol.words.word.Goals as goal

other : (w t : List ℕ) → (w ≡ t → ⊥) → bytes_eq w t ≡ false
other w t differ = elim (cases_Bool (bytes_eq w t)) [ inl e ↦ absurd (differ ((bytes_eq-Decides w t).0 e)) | inr e ↦ e ]

-- a word that is none of the five is a name, if anything
is_name : (w : List ℕ) → (w ≡ codes "and" → ⊥) → (w ≡ codes "or" → ⊥) → (w ≡ codes "not" → ⊥) → (w ≡ codes "true" → ⊥) → (w ≡ codes "false" → ⊥) → word_symbol w ≡ named (field_number w) (link_of w)
is_name w a o n t f =
    cond-false _ _ _ (other w _ a)
    ∙ cond-false _ _ _ (other w _ o)
    ∙ cond-false _ _ _ (other w _ n)
    ∙ cond-false _ _ _ (other w _ t)
    ∙ cond-false _ _ _ (other w _ f)

pub returns-in_default : goal.returns-in_default
returns-in_default c =
    let w = c.args.part.now in
    let byte = λ (i : ℕ) (l : List ℕ). get_or l i 0 in
    subst⁻¹ (λ s. Says s c.name.result)
    (is_name w
    (λ e. grind (arith, ap length e, ap (byte 0) e, ap (byte 1) e, ap (byte 2) e))
    (λ e. grind (arith, ap length e, ap (byte 0) e, ap (byte 1) e))
    (λ e. grind (arith, ap length e, ap (byte 0) e, ap (byte 1) e, ap (byte 2) e))
    (λ e. grind (arith, ap length e, ap (byte 0) e, ap (byte 1) e, ap (byte 2) e, ap (byte 3) e))
    (λ e. grind (arith, ap length e, ap (byte 0) e, ap (byte 1) e, ap (byte 2) e, ap (byte 3) e, ap (byte 4) e)))
    c.name.ensures
