-- What the steps of a reader do.
use Rattle.std.specs.Prelude.{◌≡◌, ℕ, ◌+◌, ◌<◌, ◌≤◌, List, [], ◌∷◌, ◌++◌, length}
use Rattle.std.specs.List.{flat_map, AllByRecursion}
use Rattle.layout.specs.declared.reader.Reader.{Reader}
use Rattle.layout.specs.declared.refusal.LayoutRefusal.{LayoutRefusal}
use Rattle.layout.specs.declared.refusal.LayoutRefusal.TheVariants.{Cut, Count, TextLength, Extra}
use Rattle.layout.specs.Layout.{Item, two_bytes, bytes_of, GoodLength}

-- these bytes are read; r is the reader before, s the reader after
pub record Took (r s : Reader) (these : List ℕ) : Type 0 where
  pub rest_is : r.rest.now ≡ these ++ s.rest.now
  pub at_is : s.at ≡ r.at + length these

-- fewer than so many bytes are left
abbrev pub CutAt : ℕ → Reader → LayoutRefusal → Type 0
CutAt width r e = (e ≡ Cut r.at) × (length r.rest.now < width)

abbrev pub Between : ℕ → ℕ → ℕ → Type 0
Between least greatest n = (least ≤ n) × (n ≤ greatest)

-- a count within its limits
abbrev pub CountIs : Reader → Reader → ℕ → ℕ → ℕ → Type 0
CountIs r s least greatest n = Took r s (two_bytes n) × Between least greatest n

pub data CountStops (r : Reader) (least greatest : ℕ) (e : LayoutRefusal) : Type 0 where
  no_count : CutAt 2 r e → CountStops r least greatest e
  bad_count : e ≡ Count r.at → (s : Reader) (n : ℕ) → Took r s (two_bytes n) → (Between least greatest n → ⊥) → CountStops r least greatest e

pub data TextStops (r : Reader) (e : LayoutRefusal) : Type 0 where
  no_length : CutAt 1 r e → TextStops r e
  bad_length : e ≡ TextLength r.at → (s : Reader) (n : ℕ) → Took r s (n ∷ []) → (GoodLength n → ⊥) → TextStops r e
  short_text : (s : Reader) (n : ℕ) → Took r s (n ∷ []) → GoodLength n → CutAt n s e → TextStops r e

abbrev pub EndStops : Reader → LayoutRefusal → Type 0
EndStops r e = (e ≡ Extra r.at) × (0 < length r.rest.now)

-- there is nothing to ask of a record
abbrev pub Any : {X : Type 0} → X → Type 0
Any x = Unit {0}

-- one element of a section
abbrev pub ElementIs : {X : Type 0} → (X → List Item) → (X → Type 0) → Reader → Reader → X → Type 0
ElementIs items good r s x = Took r s (bytes_of (items x)) × good x

-- elements one after the other
pub record Filled {X : Type 0} (items : X → List Item) (good : X → Type 0) (r s : Reader) (xs : List X) : Type 0 where
  pub took : Took r s (bytes_of (flat_map items xs))
  pub fine : AllByRecursion good xs

-- some elements are read, fewer than n, and then it stops
pub record Stopped {X : Type 0} (items : X → List Item) (good : X → Type 0) (stops : Reader → LayoutRefusal → Type 0) (r : Reader) (n : ℕ) (e : LayoutRefusal) : Type 0 where
  pub elements : List X
  pub fewer : length elements < n
  pub there : Reader
  pub filled : Filled items good r there elements
  pub stop : stops there e

-- a section's count, within its limits, and its elements
pub record SectionIs {X : Type 0} (items : X → List Item) (good : X → Type 0) (r s : Reader) (least greatest : ℕ) (xs : List X) : Type 0 where
  pub there : Reader
  pub count_is : CountIs r there least greatest (length xs)
  pub filled : Filled items good there s xs

pub data SectionStops {X : Type 0} (items : X → List Item) (good : X → Type 0) (stops : Reader → LayoutRefusal → Type 0) (r : Reader) (least greatest : ℕ) (e : LayoutRefusal) : Type 0 where
  at_count : CountStops r least greatest e → SectionStops items good stops r least greatest e
  at_element : (n : ℕ) (there : Reader) → CountIs r there least greatest n → Stopped items good stops there n e → SectionStops items good stops r least greatest e
