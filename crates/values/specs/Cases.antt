-- The bytes of a case, and the verdict on any bytes.
use Rattle.std.specs.Prelude.{◌≡◌, ℕ, ◌*◌, ◌<◌, List, length, take, drop, Ok, Err, Result}
use Rattle.std.specs.List.{flat_map}
use Rattle.values.specs.declared.field.Field.{Field}
use Rattle.values.specs.declared.container.Container.{Container}
use Rattle.values.specs.declared.case.refusal.CaseRefusal.{CaseRefusal}
use Rattle.values.specs.declared.case.refusal.CaseRefusal.TheVariants.{Length, BadField}
use Rattle.values.specs.Layout.{field_bytes}

-- the encoding of a container: its fields, one after the other
abbrev pub case_bytes : Container → List ℕ
case_bytes c = flat_map field_bytes c.fields

-- the bytes of record k, where each record has so many
abbrev pub slot : ℕ → List ℕ → ℕ → List ℕ
slot width bs k = take width (drop (width * k) bs)

-- these bytes are a field's
pub record IsField (bs : List ℕ) : Type 0 where
  pub field : Field
  pub bytes_are : bs ≡ field_bytes field

-- field k is the first whose bytes are no field's
pub record FirstBad (bs : List ℕ) (k : ℕ) : Type 0 where
  pub length_is : length bs ≡ 72
  pub bad : IsField (slot 9 bs k) → ⊥
  pub good_before : (j : ℕ) → j < k → IsField (slot 9 bs j)

abbrev pub CaseRefused : List ℕ → CaseRefusal → Type 0
CaseRefused bs Length = length bs ≡ 72 → ⊥
CaseRefused bs (BadField n) = FirstBad bs n.number

-- bytes are read as the container that they encode, or refused
abbrev pub CaseRead : List ℕ → Result Container CaseRefusal → Type 0
CaseRead bs (Ok c) = bs ≡ case_bytes c
CaseRead bs (Err e) = CaseRefused bs e

-- the number and the place of a refusal
abbrev pub cause_number : CaseRefusal → ℕ
cause_number Length = 20
cause_number (BadField n) = 20

abbrev pub place_number : CaseRefusal → ℕ
place_number Length = 8
place_number (BadField n) = n.number
