-- Bytes have one verdict as a case.
use Rattle.std.proofs.Common.{◌≡◌, ℕ, ◌*◌, ◌<◌, List, length, Ok, Err, Result, sym, refl, ap, ◌∙◌, ⊎_elim, arith}
use Rattle.std.proofs.lemmas.Bool.{cases_lt}
use Rattle.values.specs.declared.field.Field.TheVariants.{Blank}
use Rattle.values.specs.declared.container.Container.{Container}
use Rattle.values.specs.declared.case.refusal.CaseRefusal.{CaseRefusal}
use Rattle.values.specs.declared.case.refusal.CaseRefusal.TheVariants.{Length, BadField}
use Rattle.values.specs.Layout.{field_at, field_bytes}
use Rattle.values.specs.Cases.{case_bytes, slot, CaseRefused, CaseRead}
use Rattle.values.specs.Same.{same_number}
use Rattle.values.proofs.Encodings.{same_case, wide_field}
use Rattle.values.proofs.Records.{length_joined, slot_joined, joined_from_slots}

length_case : (c : Container) → length (case_bytes c) ≡ 72
length_case c = length_joined field_bytes 9 wide_field c.fields ∙ ap (λ n. 9 * n) c.eight

encoded_not_refused : (bs : List ℕ) (c : Container) (e : CaseRefusal) → bs ≡ case_bytes c → CaseRefused bs e → ⊥
encoded_not_refused bs c Length h no_length = no_length (ap length h ∙ length_case c)
encoded_not_refused bs c (BadField n) h first =
    first.bad (record {
      field = field_at c n.number;
      bytes_are = ap (λ x. slot 9 x n.number) h ∙ slot_joined field_bytes 9 wide_field c.fields n.number Blank (omega (arith, n.below, c.eight));
    })

one_refusal : (bs : List ℕ) (d e : CaseRefusal) → CaseRefused bs d → CaseRefused bs e → d ≡ e
one_refusal bs Length Length p q = refl
one_refusal bs Length (BadField n) p q = absurd (p q.length_is)
one_refusal bs (BadField m) Length p q = absurd (q p.length_is)
one_refusal bs (BadField m) (BadField n) p q =
    ⊎_elim
    (λ l. absurd (p.bad (q.good_before m.number l)))
    (λ g. ⊎_elim (λ l. absurd (q.bad (p.good_before n.number l))) (λ h. ap BadField (same_number m n (omega arith))) (cases_lt n.number m.number))
    (cases_lt m.number n.number)

pub one_verdict : (bs : List ℕ) (q r : Result Container CaseRefusal) → CaseRead bs q → CaseRead bs r → q ≡ r
one_verdict bs (Ok c) (Ok d) p q = ap Ok (same_case c d (sym p ∙ q))
one_verdict bs (Ok c) (Err e) p q = absurd (encoded_not_refused bs c e p q)
one_verdict bs (Err e) (Ok c) p q = absurd (encoded_not_refused bs c e q p)
one_verdict bs (Err d) (Err e) p q = ap Err (one_refusal bs d e p q)

pub case_from_slots : (bs : List ℕ) (c : Container) → length bs ≡ 72 → ((j : ℕ) → j < 8 → slot 9 bs j ≡ field_bytes (field_at c j)) → bs ≡ case_bytes c
case_from_slots bs c l h = joined_from_slots field_bytes 9 wide_field bs c.fields Blank (l ∙ ap (λ n. 9 * n) (sym c.eight)) (λ k lt. h k (omega (arith, c.eight)))
