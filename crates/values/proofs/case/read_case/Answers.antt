use Rattle.std.proofs.Common.{◌≡◌, ◌≢◌, ℕ, ◌*◌, ◌<◌, List, length, take, drop, get_or, Some, None, Option, Ok, Err, MatchOption, sym, ap, ◌∙◌, subst, arith, rules, get_or-set_other, get_or-set_same, below_more}
use mathlib.Core.Path.{subst⁻¹}
use Rattle.std.proofs.lemmas.List.{drop-drop}
use Rattle.std.proofs.lemmas.Slice.{between_to_end}
use Rattle.std.specs.Option.{ok_or}
use Rattle.values.specs.declared.field.Field.{Field}
use Rattle.values.specs.declared.field.Field.TheVariants.{Blank}
use Rattle.values.specs.declared.field.FieldNumber.{FieldNumber}
use Rattle.values.specs.declared.case.refusal.CaseRefusal.{CaseRefusal}
use Rattle.values.specs.declared.case.refusal.CaseRefusal.TheVariants.{Length, BadField}
use Rattle.values.specs.Layout.{field_bytes}
use Rattle.values.specs.Cases.{CaseRead, slot, FirstBad}
use Rattle.values.proofs.Encodings.{same_case}
use Rattle.values.proofs.Verdicts.{one_verdict, case_from_slots}
use Rattle.values.proofs.case.read_case.Goals as goal

-- what the reading of a field answers, whose bytes these begin with
abbrev Reads : List ℕ → Option Field → Type 0
Reads rest r = MatchOption r ((f : Field) → take 9 rest ≢ field_bytes f) (λ f. take 9 rest ≡ field_bytes f)

slot_of_ok : (bs : List ℕ) (k : ℕ) (r : Option Field) (e : CaseRefusal) (f : Field) → Reads (drop (9 * k) bs) r → ok_or r e ≡ Ok f → slot 9 bs k ≡ field_bytes f
slot_of_ok bs k (Some g) e f reads is = reads ∙ ap field_bytes (cc)
slot_of_ok bs k None e f reads is = absurd (cc)

bad_of_err : (bs : List ℕ) (n : FieldNumber) (r : Option Field) (e : CaseRefusal) → Reads (drop (9 * n.number) bs) r → ok_or r (BadField n) ≡ Err e → length bs ≡ 72 → ((j : ℕ) → j < n.number → (f : Field) × (slot 9 bs j ≡ field_bytes f)) → CaseRead bs (Err e)
bad_of_err bs n (Some g) e reads is long before = absurd (cc)
bad_of_err bs n None e reads is long before =
    let same : BadField n ≡ e = cc in
    let first : FirstBad bs n.number = record {
      length_is = long;
      bad = λ f. reads f.field f.bytes_are;
      good_before = λ j h. let f = before j h in record { field = f.0; bytes_are = f.1 };
    } in
    subst⁻¹ (λ x. CaseRead bs (Err x)) (sym same) first

pub returns-then-bytes-ne72 : goal.returns-then-bytes-ne72
returns-then-bytes-ne72 c =
    let v : CaseRead c.args.bytes.now (Err Length) = c.if-bytes-ne72.true in
    record { verdict = v; only_verdict = λ q h. one_verdict _ q _ h v; one_encoding = same_case }

pub returns-in_err-field : goal.returns-in_err-field
returns-in_err-field c =
    let bs = c.args.bytes.now in
    let is : c.from_residual.result ≡ Err c.in_err-field.field-0.0 = search rules in
    let reads = subst (λ xs. Reads xs c.read.result) (c.loop-k.invariant.0 ∙ ap (λ n. drop (9 * n) bs) (sym c.at-number.ensures)) c.read.ensures in
    let v : CaseRead bs c.from_residual.result =
    subst⁻¹ (CaseRead bs) is
    (bad_of_err bs c.at-number.result c.read.result _ reads (sym c.ok_or.ensures.value ∙ c.in_err-field.was) c.if-bytes-ne72.false
    (λ j h. (_, c.loop-k.invariant.1 j (omega (arith, c.at-number.ensures)))))
    in record { verdict = v; only_verdict = λ q h. one_verdict _ q _ h v; one_encoding = same_case }

pub loop-k-preserved : goal.loop-k-preserved
loop-k-preserved c =
    let bs = c.args.bytes.now in
    let fields = c.loop-k.field-items in
    let k = c.loop-k.k in
    let rest = c.loop-k.rest.now in
    let reads = subst (λ xs. Reads xs c.read.result) c.loop-k.invariant.0 c.read.ensures in (
      between_to_end rest 9 (length rest) (omega arith) ∙ ap (drop 9) c.loop-k.invariant.0 ∙ drop-drop 9 (9 * k) bs ∙ ap (λ n. drop n bs) (omega arith),
      below_more _ _
          (λ j h.
          let apart : j ≢ k = omega arith in
          c.loop-k.invariant.1 j h ∙ ap field_bytes (sym (get_or-set_other fields k j _ Blank apart)))
          (slot_of_ok bs k c.read.result _ _ reads (sym c.ok_or.ensures.value ∙ c.in_ok-field.was) ∙ ap field_bytes (sym (get_or-set_same fields k _ Blank (omega arith)))),
    )

pub returns : goal.returns
returns c =
    let v : CaseRead c.args.bytes.now (Ok c.new.result) = case_from_slots _ c.new.result c.if-bytes-ne72.false (λ j h. c.loop-k.invariant.1 j (omega arith) ∙ ap (λ l. field_bytes (get_or l j Blank)) (sym c.new.ensures)) in
    record { verdict = v; only_verdict = λ q h. one_verdict _ q _ h v; one_encoding = same_case }
