-- Records that are read one after the other.
use Rattle.std.proofs.Common.{◌≡◌, ℕ, suc, ◌+◌, ◌*◌, ◌<◌, ◌≤◌, ◌≢◌, List, [], ◌∷◌, ◌++◌, length, get_or, take, drop, false, true, Some, None, Option, Ok, Err, Result, sym, refl, ap, ◌∙◌, ⊎_elim, mul-le-mul_left, mul-suc, arith, length-append, length-drop, append-nil}
use Rattle.std.proofs.Math.Nat.{lt_of_mul-lt-mul_left}
use Rattle.std.specs.Prelude.{is_ok}
use Rattle.std.specs.Option.{ok_or}
use Rattle.std.specs.List.{flat_map}
use Rattle.std.proofs.lemmas.Bool.{cases_lt, false≢true}
use Rattle.std.proofs.lemmas.List.{take_at, drop_at, take-append-le, drop-append-le}
use Rattle.lists.specs.declared.list.Full.{Full}
use Rattle.lists.specs.Lists.{PushAnswers}
use Rattle.values.specs.Cases.{slot}
use Rattle.values.proofs.Records.{length_joined, slot_joined}
use Rattle.tables.specs.declared.records.BadRecord.{BadRecord}
use Rattle.tables.specs.Records.{FirstBad, RecordsRead}
use Rattle.tables.proofs.Pieces.{some}

-- one more record still ends within the bytes
pub within : (w k n : ℕ) → k < n → w * k + w ≤ w * n
within w k n h =
    let more : w * suc k ≤ w * n = mul-le-mul_left w h in
    omega (arith, mul-suc w k)

module _ {X : Type 0} (f : X → List ℕ) (width : ℕ) (wide : (x : X) → length (f x) ≡ width) where
  -- a record that other bytes come after
  slot_before : (xs : List X) (rest : List ℕ) (k : ℕ) (d : X) → k < length xs → slot width (flat_map f xs ++ rest) k ≡ f (get_or xs k d)
  slot_before xs rest k d h =
      let all = flat_map f xs in
      let ends : width * k + width ≤ length all = omega (arith, length_joined f width wide xs, within width k (length xs) h) in
      ap (take width) (drop-append-le (width * k) all rest (omega arith))
      ∙ take-append-le width (drop (width * k) all) rest (omega (arith, length-drop (width * k) all))
      ∙ slot_joined f width wide xs k d h

  -- the piece after the records so far is none
  pub first_bad : (bs : List ℕ) (xs : List X) (piece rest : List ℕ) → bs ≡ flat_map f xs ++ (piece ++ rest) → length piece ≡ width → ((x : X) → piece ≢ f x) → FirstBad f width bs (length xs)
  first_bad bs xs piece rest e long none =
      let next : slot width bs (length xs) ≡ piece = ap (λ l. slot width l (length xs)) e ∙ ap (take width) (drop_at (flat_map f xs) (piece ++ rest) (width * length xs) (length_joined f width wide xs)) ∙ take_at piece rest width long in
      record {
        bad = λ x s. none x (sym next ∙ s);
        good_before = λ j h. let d = some xs (omega arith) in record { is = get_or xs j d; bytes_are = ap (λ l. slot width l j) e ∙ slot_before xs (piece ++ rest) j d h };
      }

  -- where a piece is left there are fewer records than the bytes are long for
  pub fewer : (bs : List ℕ) (xs : List X) (piece rest : List ℕ) → bs ≡ flat_map f xs ++ (piece ++ rest) → length piece ≡ width → 0 < width → width * length xs < length bs
  fewer bs xs piece rest e long some =
      omega (arith, ap length e, length-append (flat_map f xs) (piece ++ rest), length-append piece rest, length_joined f width wide xs)

  -- and fewer than the bytes have room for
  pub room : (bs : List ℕ) (xs : List X) (piece rest : List ℕ) (count : ℕ) → bs ≡ flat_map f xs ++ (piece ++ rest) → length piece ≡ width → 0 < width → length bs ≡ width * count → length xs < count
  room bs xs piece rest count e long some all =
      let less : width * length xs < width * count = omega (arith, fewer bs xs piece rest e long some) in
      lt_of_mul-lt-mul_left width less

  -- where less than a record is left, nothing is
  pub all_read : (bs : List ℕ) (xs : List X) (rest : List ℕ) (count : ℕ) → bs ≡ flat_map f xs ++ rest → length rest < width → length bs ≡ width * count → bs ≡ flat_map f xs
  all_read bs xs rest count e short all = e ∙ ap (λ l. flat_map f xs ++ l) (empty rest left) ∙ append-nil (flat_map f xs)
    where
      long : width * length xs + length rest ≡ width * count
      long = omega (arith, ap length e, length-append (flat_map f xs) rest, length_joined f width wide xs)

      left : length rest ≡ 0
      left =
          ⊎_elim
          (λ l. absurd (omega (arith, within width (length xs) count l, long)))
          (λ m. ⊎_elim (λ l. absurd (omega (arith, within width count (length xs) l, long))) (λ n. let same : length xs ≡ count = omega arith in omega (arith, long, ap (λ k. width * k) same)) (cases_lt count (length xs)))
          (cases_lt (length xs) count)

      empty : (l : List ℕ) → length l ≡ 0 → l ≡ []
      empty [] h = refl
      empty (b ∷ l) h = absurd (omega arith)

  -- the bytes of records are read
  pub none_missed : (bs : List ℕ) (l : List X) (r : Result (Unit {0}) BadRecord) → RecordsRead f width bs l r → is_ok r ≡ false → (xs : List X) → bs ≢ flat_map f xs
  none_missed bs l (Ok u) p e xs same = absurd (false≢true (sym e))
  none_missed bs l (Err b) p e xs same =
      let all : length bs ≡ width * length xs = ap length same ∙ length_joined f width wide xs in
      let there : b.number < length xs = lt_of_mul-lt-mul_left width (omega (arith, p.0, all)) in
      let d = some xs (omega arith) in
      p.1.bad (get_or xs b.number d) (ap (λ l. slot width l b.number) same ∙ slot_joined f width wide xs b.number d there)

  -- what is listed are the records that the bytes are
  pub listed_are : (bs : List ℕ) (l : List X) (r : Result (Unit {0}) BadRecord) → RecordsRead f width bs l r → is_ok r ≡ true → bs ≡ flat_map f l
  listed_are bs l (Ok u) p e = p
  listed_are bs l (Err b) p e = absurd (false≢true e)

-- where there is room, the element is added
pub pushed : {X : Type 0} (n : ℕ) (xs : List X) (x : X) (ys : List X) (r : Result (Unit {0}) Full) → PushAnswers n xs x ys r → {count : ℕ} → length xs < count → count ≤ n → is_ok r ≡ true
pushed n xs x ys (Ok u) p less few = refl
pushed n xs x ys (Err e) p less few = absurd (omega (arith, p.0))

-- the error that stands in for a missing value
pub error_is : {X E : Type 0} (o : Option X) (d e : E) → Err e ≡ ok_or o d → o ≡ None → e ≡ d
error_is None d e same none = cc
error_is (Some x) d e same none = absurd cc
