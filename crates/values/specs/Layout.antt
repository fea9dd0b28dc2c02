-- The bytes of a field and of a container.
use Rattle.std.specs.Prelude.{◌≡◌, ◌≢◌, ℕ, zero, suc, ◌-◌, ◌/◌, ◌%◌, ◌^◌, List, [], ◌∷◌, ℤ, pos, negsuc, Ok, Err, Result, slice_index_or}
use Rattle.values.specs.declared.field.Field.{Field}
use Rattle.values.specs.declared.field.Field.TheVariants.{Blank, Number}
use Rattle.values.specs.declared.field.Tag.{Tag}
use Rattle.values.specs.declared.field.Tag.TheVariants as Tags
use Rattle.values.specs.declared.field.UnknownTag.{UnknownTag}
use Rattle.values.specs.declared.container.Container.{Container}
use Rattle.values.specs.Amounts.{size}

-- a number in so many bytes, the lowest first
abbrev pub lowest_first : ℕ → ℕ → List ℕ
lowest_first zero n = []
lowest_first (suc k) n = n % 256 ∷ lowest_first k (n / 256)

-- two's complement in 64 bits
abbrev pub complement : ℤ → ℕ
complement (pos n) = n
complement (negsuc n) = 2 ^ 64 - suc n

abbrev pub signed_bytes : ℤ → List ℕ
signed_bytes z = lowest_first 8 (complement z)

abbrev pub tagged : ℕ → ℤ → List ℕ
tagged tag value = tag ∷ signed_bytes value

abbrev pub tag_number : Tag → ℕ
tag_number Tags.Blank = 0
tag_number Tags.Number = 1

-- the tag with this number, or there is none
abbrev pub HasTag : ℕ → Result Tag UnknownTag → Type 0
HasTag n (Ok t) = tag_number t ≡ n
HasTag n (Err e) = (e.0 ≡ n) × ((t : Tag) → tag_number t ≢ n)

abbrev pub field_bytes : Field → List ℕ
field_bytes Blank = tagged (tag_number Tags.Blank) (pos 0)
field_bytes (Number a) = tagged (tag_number Tags.Number) (size a)

abbrev pub field_at : Container → ℕ → Field
field_at c k = slice_index_or c.fields k Blank
