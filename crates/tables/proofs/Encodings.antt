-- The widths of what a row is made of, and that no two rows have one encoding.
use Rattle.std.proofs.Common.{◌≡◌, ℕ, ◌/◌, ◌%◌, ◌^◌, ◌<◌, ◌≤◌, List, ◌∷◌, ◌++◌, length, take, drop, replicate, ℤ, pos, ◌≤ℤ◌, Some, None, Ok, Err, Option, Result, sym, refl, ap, ◌∙◌, arith, take-append-drop, w64, SFits}
use mathlib.Core.HLevel.{is_prop→PathP}
use native.Mathlib.Bridge.{le_prop}
use native.Mathlib.Nat.{ℕ_set}
use lib.Dec.{T_prop}
use lib.Signed.{le_z, mag}
use Rattle.std.proofs.lemmas.List.{take_at, drop_at}
use Rattle.values.specs.declared.field.Field.TheVariants.{Blank, Number}
use Rattle.values.specs.declared.field.FieldNumber.{FieldNumber}
use Rattle.values.specs.Layout.{signed_bytes, tagged}
use Rattle.values.specs.Same.{same_number}
use Rattle.values.proofs.Encodings.{signed_same, same_field}
use Rattle.values.proofs.Records.{same_from_joined}
use Rattle.partners.specs.Answers.{fault_code}
use Rattle.partners.proofs.Same.{same_fault}
use Rattle.tables.specs.declared.source.Source.{Source}
use Rattle.tables.specs.declared.source.Source.TheVariants.{Given, Copied}
use Rattle.tables.specs.declared.outputs.Outputs.{Outputs}
use Rattle.tables.specs.declared.fit.Span.{Span}
use Rattle.tables.specs.declared.outcome.RowFault.{RowFault}
use Rattle.tables.specs.declared.row.Row.{Row}
use Rattle.tables.specs.Widths.{wide_source, wide_fit}
use Rattle.tables.specs.Layout.{two_bytes, source_bytes, outputs_bytes, fit_bytes, outcome_bytes, row_bytes}

-- two pieces of known width
pub parts_same : (n : ℕ) (a b x y : List ℕ) → length a ≡ n → length x ≡ n → a ++ b ≡ x ++ y → (a ≡ x) × (b ≡ y)
parts_same n a b x y la lx e = (sym (take_at a b n la) ∙ ap (take n) e ∙ take_at x y n lx, sym (drop_at a b n la) ∙ ap (drop n) e ∙ drop_at x y n lx)

head_same : (a b : ℕ) (xs ys : List ℕ) → a ∷ xs ≡ b ∷ ys → a ≡ b
head_same a b xs ys e = cc

tail_same : (a b : ℕ) (xs ys : List ℕ) → a ∷ xs ≡ b ∷ ys → xs ≡ ys
tail_same a b xs ys e = cc

pub two_same : (m n : ℕ) → two_bytes m ≡ two_bytes n → m ≡ n
two_same m n e =
    let low : m % 256 ≡ n % 256 = head_same _ _ _ _ e in
    let high : m / 256 ≡ n / 256 = head_same _ _ _ _ (tail_same _ _ _ _ e) in
    omega arith

no_code : (f : RowFault) → fault_code f.fault ≡ 0 → ⊥
no_code f e = omega (arith, f.from_ten)

-- bytes that begin with the code 0 and go on as no outputs are no outcome's
pub no_outcome : (bs rest : List ℕ) → bs ≡ two_bytes 0 ++ rest → ((o : Outputs) → rest ≡ outputs_bytes o → ⊥) → (x : Result Outputs RowFault) → bs ≡ outcome_bytes x → ⊥
no_outcome bs rest e none (Err f) q = no_code f (two_same _ 0 (parts_same 2 (two_bytes (fault_code f.fault)) (replicate 72 0) (two_bytes 0) rest refl refl (sym q ∙ e)).0)
no_outcome bs rest e none (Ok o) q = none o (parts_same 2 (two_bytes 0) rest (two_bytes 0) (outputs_bytes o) refl refl (sym e ∙ q)).1

-- bytes in the three parts of a row
pub three_parts : (bs operation rest fit outcome : List ℕ) → operation ≡ take 2 bs → rest ≡ drop 2 bs → fit ≡ take 17 rest → outcome ≡ drop 17 rest → bs ≡ operation ++ (fit ++ outcome)
three_parts bs operation rest fit outcome o r f u =
    sym (take-append-drop 2 bs) ∙ (λ i. sym o i ++ sym r i) ∙ ap (λ l. operation ++ l) (sym (take-append-drop 17 rest) ∙ (λ i. sym f i ++ sym u i))

-- the outcome's part of a row's bytes
pub outcome_part : (bs rest outcome : List ℕ) → rest ≡ drop 2 bs → outcome ≡ drop 17 rest → (r : Row) → bs ≡ row_bytes r → outcome ≡ outcome_bytes r.outcome
outcome_part bs rest outcome r u x e = u ∙ ap (drop 17) (r ∙ ap (drop 2) e) ∙ drop_at (fit_bytes x.fit) (outcome_bytes x.outcome) 17 (wide_fit x.fit)

pos_fits : (n : FieldNumber) → SFits w64 (pos n.number)
pos_fits n = record { sfits = omega (arith, n.below) }

pub same_source : (s t : Source) → source_bytes s ≡ source_bytes t → s ≡ t
same_source (Given f) (Given g) e = ap Given (same_field f g e)
same_source (Given Blank) (Copied n) e = absurd (omega (arith, head_same _ _ _ _ e))
same_source (Given (Number a)) (Copied n) e = absurd (omega (arith, head_same _ _ _ _ e))
same_source (Copied n) (Given Blank) e = absurd (omega (arith, head_same _ _ _ _ e))
same_source (Copied n) (Given (Number a)) e = absurd (omega (arith, head_same _ _ _ _ e))
same_source (Copied m) (Copied n) e =
    let z : pos m.number ≡ pos n.number = signed_same (pos m.number) (pos n.number) (pos_fits m) (pos_fits n) (tail_same _ _ _ _ e) in
    let k : m.number ≡ n.number = cc in
    ap Copied (same_number m n k)

same_eight : (o p : Outputs) → o.sources ≡ p.sources → o ≡ p
same_eight o p e = λ i. record { sources = e i; eight = is_prop→PathP (λ j. length (e j) ≡ 8) (λ j. ℕ_set _ _) o.eight p.eight i }

pub same_outputs : (o p : Outputs) → outputs_bytes o ≡ outputs_bytes p → o ≡ p
same_outputs o p e = same_eight o p (same_from_joined source_bytes 9 wide_source same_source o.sources p.sources (o.eight ∙ sym p.eight) e)

at_most_prop : (x y : ℤ) → IsProp (x ≤ℤ y)
at_most_prop x y p q = λ i. record { le = T_prop (le_z x y) p.le q.le i }

same_span : (s t : Span) → s.field ≡ t.field → s.low ≡ t.low → s.high ≡ t.high → s ≡ t
same_span s t f l h = λ i. record {
  field = f i;
  low = l i;
  high = h i;
  ordered = is_prop→PathP (λ j. l j ≤ℤ h j) (λ j. at_most_prop _ _) s.ordered t.ordered i;
  low_in_bytes = is_prop→PathP (λ j. mag (l j) < 2 ^ 63) (λ j. le_prop) s.low_in_bytes t.low_in_bytes i;
  high_in_bytes = is_prop→PathP (λ j. mag (h j) < 2 ^ 63) (λ j. le_prop) s.high_in_bytes t.high_in_bytes i;
}

pub same_fit : (f g : Option Span) → fit_bytes f ≡ fit_bytes g → f ≡ g
same_fit None None e = refl
same_fit None (Some s) e = absurd (omega (arith, head_same _ _ _ _ e, s.field.below))
same_fit (Some s) None e = absurd (omega (arith, head_same _ _ _ _ e, s.field.below))
same_fit (Some s) (Some t) e =
    let parts = parts_same 9 (tagged s.field.number s.low) (signed_bytes s.high) (tagged t.field.number t.low) (signed_bytes t.high) refl refl e in
    ap Some
    (same_span s t (same_number _ _ (head_same _ _ _ _ parts.0))
    (signed_same s.low t.low (record { sfits = s.low_in_bytes }) (record { sfits = t.low_in_bytes }) (tail_same _ _ _ _ parts.0))
    (signed_same s.high t.high (record { sfits = s.high_in_bytes }) (record { sfits = t.high_in_bytes }) parts.1))

same_row_fault : (f g : RowFault) → f.fault ≡ g.fault → f ≡ g
same_row_fault f g e = λ i. record { fault = e i; from_ten = is_prop→PathP (λ j. 10 ≤ fault_code (e j)) (λ j. le_prop) f.from_ten g.from_ten i }

fault_or_outputs : (f : RowFault) (o : Outputs) → outcome_bytes (Err f) ≡ outcome_bytes (Ok o) → ⊥
fault_or_outputs f o e = no_code f (two_same _ 0 (parts_same 2 (two_bytes (fault_code f.fault)) (replicate 72 0) (two_bytes 0) (outputs_bytes o) refl refl e).0)

pub same_outcome : (o p : Result Outputs RowFault) → outcome_bytes o ≡ outcome_bytes p → o ≡ p
same_outcome (Err f) (Err g) e = ap Err (same_row_fault f g (same_fault _ _ (two_same _ _ (parts_same 2 (two_bytes (fault_code f.fault)) (replicate 72 0) (two_bytes (fault_code g.fault)) (replicate 72 0) refl refl e).0)))
same_outcome (Err f) (Ok p) e = absurd (fault_or_outputs f p e)
same_outcome (Ok o) (Err g) e = absurd (fault_or_outputs g o (sym e))
same_outcome (Ok o) (Ok p) e = ap Ok (same_outputs o p (parts_same 2 (two_bytes 0) (outputs_bytes o) (two_bytes 0) (outputs_bytes p) refl refl e).1)

pub same_row : (r s : Row) → row_bytes r ≡ row_bytes s → r ≡ s
same_row r s e =
    let front = parts_same 2 (two_bytes r.operation) (fit_bytes r.fit ++ outcome_bytes r.outcome) (two_bytes s.operation) (fit_bytes s.fit ++ outcome_bytes s.outcome) refl refl e in
    let parts = parts_same 17 (fit_bytes r.fit) (outcome_bytes r.outcome) (fit_bytes s.fit) (outcome_bytes s.outcome) (wide_fit r.fit) (wide_fit s.fit) front.1 in
    let operation : r.operation ≡ s.operation = two_same _ _ front.0 in
    λ i. record { operation = operation i; fit = same_fit r.fit s.fit parts.0 i; outcome = same_outcome r.outcome s.outcome parts.1 i }
