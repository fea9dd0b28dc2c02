-- The verdict on the layout of any bytes.
use Rattle.std.specs.Prelude.{◌≡◌, ℕ, ◌+◌, ◌<◌, ◌≤◌, List, ◌∷◌, ◌++◌, length, take}
use Rattle.layout.specs.declared.refusal.LayoutRefusal.{LayoutRefusal}
use Rattle.layout.specs.declared.refusal.LayoutRefusal.TheVariants.{Cut, Count, TextLength, Extra}
use Rattle.layout.specs.Layout.{Parts, WithinLimits, Item, a_count, a_length, item_bytes, bytes_of, items_of, encode}

-- the bytes before the place can go on to a layout within the limits, in which this item then comes next
pub record Next (bs : List ℕ) (at : ℕ) (item : Item) : Type 0 where
  pub parts : Parts
  pub limits : WithinLimits parts
  pub before : List Item
  pub after : List Item
  pub items_are : items_of parts ≡ before ++ item ∷ after
  pub front_is : take at bs ≡ bytes_of before
  pub at_is : at ≡ length (bytes_of before)

-- some layout within the limits begins with these bytes
pub record Begins (bs : List ℕ) : Type 0 where
  pub parts : Parts
  pub limits : WithinLimits parts
  pub rest : List ℕ
  pub encode_is : encode parts ≡ bs ++ rest

-- the input ends inside the item that comes next
pub record CutShort (bs : List ℕ) (at : ℕ) : Type 0 where
  pub item : Item
  pub next : Next bs at item
  pub ends : length bs < at + length (item_bytes item)

-- an item of this kind comes next and is there whole, and no layout within the limits begins with the bytes through it
pub record Wrong (kind : ℕ → Item) (bs : List ℕ) (at : ℕ) : Type 0 where
  pub number : ℕ
  pub next : Next bs at (kind number)
  pub there : at + length (item_bytes (kind number)) ≤ length bs
  pub through : Begins (take (at + length (item_bytes (kind number))) bs) → ⊥

abbrev pub WrongCount : List ℕ → ℕ → Type 0
WrongCount bs at = Wrong a_count bs at

abbrev pub WrongLength : List ℕ → ℕ → Type 0
WrongLength bs at = Wrong a_length bs at

-- the bytes before the place are a whole layout within the limits, and more follow
pub record Overlong (bs : List ℕ) (at : ℕ) : Type 0 where
  pub parts : Parts
  pub limits : WithinLimits parts
  pub encode_is : encode parts ≡ take at bs
  pub more : at < length bs

abbrev pub Refused : List ℕ → LayoutRefusal → Type 0
Refused bs (Cut at) = CutShort bs at
Refused bs (Count at) = WrongCount bs at
Refused bs (TextLength at) = WrongLength bs at
Refused bs (Extra at) = Overlong bs at

pub data Verdict : Type 0 where
  accepted : Parts → Verdict
  refused : LayoutRefusal → Verdict

abbrev pub Judged : List ℕ → Verdict → Type 0
Judged bs (accepted p) = WithinLimits p × (bs ≡ encode p)
Judged bs (refused e) = Refused bs e

-- no bytes have two verdicts
abbrev pub OneVerdict : List ℕ → Type 0
OneVerdict bs = (v w : Verdict) → Judged bs v → Judged bs w → v ≡ w

-- no two different parts within the limits have the same bytes
abbrev pub OneEncoding : Type 0
OneEncoding = (p q : Parts) → WithinLimits p → WithinLimits q → encode p ≡ encode q → p ≡ q
