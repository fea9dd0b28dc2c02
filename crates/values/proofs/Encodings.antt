-- No two values have one encoding.
use Rattle.std.proofs.Common.{◌≡◌, ℕ, zero, suc, ◌/◌, ◌%◌, ◌^◌, ◌<◌, length, ℤ, pos, negsuc, sym, refl, ap, ◌∙◌, pow-suc, arith, w64, SFits, to_z, of_z}
use Rattle.std.proofs.lemmas.Int.{ints, to_z-of_z}
use Rattle.values.specs.declared.field.Field.{Field}
use Rattle.values.specs.declared.field.Field.TheVariants.{Blank, Number}
use Rattle.values.specs.declared.field.Tag.{Tag}
use Rattle.values.specs.declared.field.Tag.TheVariants as Tags
use Rattle.values.specs.declared.container.Container.{Container}
use Rattle.values.specs.Amounts.{InRange}
use Rattle.values.specs.Layout.{lowest_first, complement, signed_bytes, tagged, tag_number, field_bytes}
use Rattle.values.specs.Cases.{case_bytes}
use Rattle.values.specs.Same.{same_amount, same_container}
use Rattle.values.proofs.Records.{same_from_joined}

lowest_first_same : (k m n : ℕ) → m < 256 ^ k → n < 256 ^ k → lowest_first k m ≡ lowest_first k n → m ≡ n
lowest_first_same zero m n p q e = omega arith
lowest_first_same (suc k) m n p q e =
    let low : m % 256 ≡ n % 256 = cc in
    let high : m / 256 ≡ n / 256 = lowest_first_same k (m / 256) (n / 256) (omega (arith, pow-suc 256 k)) (omega (arith, pow-suc 256 k)) (cc) in
    omega arith

complement_is : (z : ℤ) → complement z ≡ of_z w64 z
complement_is (pos n) = refl
complement_is (negsuc n) = refl

complement_lt : (z : ℤ) → SFits w64 z → complement z < 2 ^ 64
complement_lt (pos n) f = omega (arith, f.sfits)
complement_lt (negsuc n) f = omega arith

complement_same : (x y : ℤ) → SFits w64 x → SFits w64 y → complement x ≡ complement y → x ≡ y
complement_same x y f g e = sym (to_z-of_z w64 x f) ∙ ap (to_z w64) (sym (complement_is x) ∙ e ∙ complement_is y) ∙ to_z-of_z w64 y g

-- no two numbers of 64 bits have the same eight bytes
pub signed_same : (x y : ℤ) → SFits w64 x → SFits w64 y → signed_bytes x ≡ signed_bytes y → x ≡ y
signed_same x y f g e = complement_same x y f g (lowest_first_same 8 _ _ (complement_lt x f) (complement_lt y g) e)

pub range_fits : (z : ℤ) → InRange z → SFits w64 z
range_fits (pos n) h = record { sfits = omega (arith, ints) }
range_fits (negsuc n) h = record { sfits = omega (arith, ints) }

pub bits_same : (x y : ℤ) → InRange x → InRange y → of_z w64 x ≡ of_z w64 y → x ≡ y
bits_same x y p q e = sym (to_z-of_z w64 x (range_fits x p)) ∙ ap (to_z w64) e ∙ to_z-of_z w64 y (range_fits y q)

pub same_field : (f g : Field) → field_bytes f ≡ field_bytes g → f ≡ g
same_field Blank Blank e = refl
same_field Blank (Number b) e = absurd (let h : ◌≡◌ {A = ℕ} 0 1 = cc in omega arith)
same_field (Number a) Blank e = absurd (let h : ◌≡◌ {A = ℕ} 1 0 = cc in omega arith)
same_field (Number a) (Number b) e = ap Number (same_amount a b (signed_same _ _ (range_fits _ (a.above, a.below)) (range_fits _ (b.above, b.below)) (cc)))

pub wide_field : (f : Field) → length (field_bytes f) ≡ 9
wide_field Blank = refl
wide_field (Number a) = refl

pub same_case : (c d : Container) → case_bytes c ≡ case_bytes d → c ≡ d
same_case c d e = same_container c d (same_from_joined field_bytes 9 wide_field same_field c.fields d.fields (c.eight ∙ sym d.eight) e)

-- bytes with the number of no tag are no field's
pub no_field : (tag : ℕ) (value : ℤ) → ((t : Tag) → tag_number t ≡ tag → ⊥) → (f : Field) → field_bytes f ≡ tagged tag value → ⊥
no_field tag value none Blank e = none Tags.Blank (cc)
no_field tag value none (Number a) e = none Tags.Number (cc)
