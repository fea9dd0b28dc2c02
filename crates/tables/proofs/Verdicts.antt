-- Bytes have one verdict as a rule table.
use Rattle.std.proofs.Common.{◌≡◌, ℕ, ◌+◌, ◌-◌, ◌*◌, ◌<◌, ◌≤◌, List, [], ◌∷◌, ◌++◌, length, get_or, take, drop, sym, refl, ap, ◌∙◌, subst, ⊎_elim, arith, length-drop}
use Rattle.std.specs.List.{flat_map}
use Rattle.std.proofs.lemmas.List.{take_all}
use Rattle.std.proofs.lemmas.Bool.{cases_lt}
use Rattle.values.specs.Cases.{slot}
use Rattle.values.proofs.Records.{length_joined, slot_joined, same_from_joined}
use Rattle.tables.specs.declared.row.Row.{Row}
use Rattle.tables.specs.declared.refusal.TableRefusal.{TableRefusal}
use Rattle.tables.specs.declared.refusal.TableRefusal.TheVariants.{Size, BadRow}
use Rattle.tables.specs.Layout.{two_bytes, row_bytes}
use Rattle.tables.specs.Records.{FirstBad}
use Rattle.tables.specs.Reading.{Sized, TableRefused, Encoded, accepted, refused, OneVerdict, OneEncoding}
use Rattle.tables.proofs.Pieces.{two_and_rest, two_read, some}
use Rattle.tables.specs.Widths.{wide_row}
use Rattle.tables.proofs.Encodings.{same_row, two_same, parts_same}

pub same_rows : OneEncoding
same_rows rows others e =
    let parts = parts_same 2 (two_bytes (length rows)) (flat_map row_bytes rows) (two_bytes (length others)) (flat_map row_bytes others) refl refl e in
    same_from_joined row_bytes 93 wide_row same_row rows others (two_same _ _ parts.0) parts.1

pub one_count : (bs : List ℕ) (m n : ℕ) → take 2 bs ≡ two_bytes m → take 2 bs ≡ two_bytes n → m ≡ n
one_count bs m n p q = two_same m n (sym p ∙ q)

encoded_sized : (bs : List ℕ) (rows : List Row) → Encoded bs rows → Sized bs (length rows)
encoded_sized bs rows e = record {
  count_is = ap (take 2) e.bytes_are;
  few = e.few;
  length_is = ap length e.bytes_are ∙ omega (arith, length_joined row_bytes 93 wide_row rows);
}

encoded_not_refused : (bs : List ℕ) (rows : List Row) (e : TableRefusal) → Encoded bs rows → TableRefused bs e → ⊥
encoded_not_refused bs rows Size p q = q (length rows) (encoded_sized bs rows p)
encoded_not_refused bs rows (BadRow k) p q =
    let many : length rows ≡ q.count = one_count bs _ _ (encoded_sized bs rows p).count_is q.sized.count_is in
    let lt : k < length rows = omega (arith, q.there) in
    let d = some rows (omega arith) in
    q.first.bad (get_or rows k d) (ap (λ l. slot 93 (drop 2 l) k) p.bytes_are ∙ slot_joined row_bytes 93 wide_row rows k d lt)

one_refusal : (bs : List ℕ) (d e : TableRefusal) → TableRefused bs d → TableRefused bs e → d ≡ e
one_refusal bs Size Size p q = refl
one_refusal bs Size (BadRow k) p q = absurd (p q.count q.sized)
one_refusal bs (BadRow k) Size p q = absurd (q p.count p.sized)
one_refusal bs (BadRow j) (BadRow k) p q =
    ⊎_elim
    (λ l. let g = q.first.good_before j l in absurd (p.first.bad g.is g.bytes_are))
    (λ m. ⊎_elim (λ l. let g = p.first.good_before k l in absurd (q.first.bad g.is g.bytes_are)) (λ n. ap BadRow (omega arith)) (cases_lt k j))
    (cases_lt j k)

pub one_verdict : (bs : List ℕ) → OneVerdict bs
one_verdict bs (accepted a) (accepted b) p q = ap accepted (same_rows a b (sym p.bytes_are ∙ q.bytes_are))
one_verdict bs (accepted a) (refused e) p q = absurd (encoded_not_refused bs a e p q)
one_verdict bs (refused e) (accepted a) p q = absurd (encoded_not_refused bs a e q p)
one_verdict bs (refused d) (refused e) p q = ap refused (one_refusal bs d e p q)

-- all bytes after the first two
after_two : (bs : List ℕ) → take (length bs - 2) (drop 2 bs) ≡ drop 2 bs
after_two bs = take_all (length bs - 2) (drop 2 bs) (omega (arith, length-drop 2 bs))

module _ (bs : List ℕ) (count : ℕ) (front : 2 ≤ length bs) (stands : count ≡ get_or bs 0 0 + get_or bs 1 0 * 256) (low : get_or bs 0 0 < 256) where
  abbrev rest : List ℕ
  rest = take (length bs - 2) (drop 2 bs)

  -- the front of bytes is the count that stands there
  pub front_is : take 2 bs ≡ two_bytes count
  front_is = go bs front (two_read count _ _ stands low)
    where
      go : (l : List ℕ) → 2 ≤ length l → two_bytes count ≡ get_or l 0 0 ∷ get_or l 1 0 ∷ [] → take 2 l ≡ two_bytes count
      go [] h e = absurd (omega arith)
      go (a ∷ []) h e = absurd (omega arith)
      go (a ∷ b ∷ l) h e = sym e

  -- the rest is too long or too short for it, or it is too large
  pub not_sized : (count ≤ 64 → length rest ≡ 93 * count → ⊥) → (n : ℕ) → Sized bs n → ⊥
  not_sized never n s =
      let same : n ≡ count = one_count bs n count s.count_is front_is in
      never (omega (arith, s.few)) (omega (arith, s.length_is, ap length (after_two bs), length-drop 2 bs))

  sized : count ≤ 64 → length rest ≡ 93 * count → Sized bs count
  sized few long = record { count_is = front_is; few = few; length_is = omega (arith, ap length (after_two bs), length-drop 2 bs) }

  -- what is refused of the rows is refused of the table
  pub row_refused : count ≤ 64 → length rest ≡ 93 * count → (k : ℕ) → 93 * k < length rest → FirstBad row_bytes 93 rest k → TableRefused bs (BadRow k)
  row_refused few long k there first =
      record { count = count; sized = sized few long; there = omega arith; first = subst (λ (l : List ℕ). FirstBad row_bytes 93 l k) (after_two bs) first }

  pub table_from_rows : count ≤ 64 → length rest ≡ 93 * count → (rows : List Row) → rest ≡ flat_map row_bytes rows → Encoded bs rows
  table_from_rows few long rows e =
      let many : count ≡ length rows = omega (arith, ap length e, length_joined row_bytes 93 wide_row rows) in
      let code : (get_or bs 0 0 ∷ get_or bs 1 0 ∷ []) ≡ two_bytes (length rows) = sym (two_read count _ _ stands low) ∙ ap two_bytes many in
      record { few = omega arith; bytes_are = two_and_rest bs (length bs - 2) (omega arith) ∙ (λ i. code i ++ e i) }
