-- Reading what bytes encode.
use Rattle.std.specs.Prelude.{◌≡◌, ℕ, ◌*◌, ◌<◌, ◌≤◌, List, length, Some, None, Ok, Err, Option, Result, ◌≢◌}
use Rattle.std.specs.List.{flat_map}
use Rattle.values.specs.Cases.{slot}
use Rattle.tables.specs.declared.records.BadRecord.{BadRecord}

-- what is read has these bytes; where nothing is read, nothing has them
abbrev pub Reads : {X : Type 0} → (X → List ℕ) → List ℕ → Option X → Type 0
Reads f bs (Some x) = bs ≡ f x
Reads {X} f bs None = (x : X) → bs ≢ f x

-- record k is no X
abbrev pub Bad : {X : Type 0} → (X → List ℕ) → ℕ → List ℕ → ℕ → Type 0
Bad {X} f width bs k = (x : X) → slot width bs k ≢ f x

-- record k is an X
pub record Good {X : Type 0} (f : X → List ℕ) (width : ℕ) (bs : List ℕ) (k : ℕ) : Type 0 where
  pub is : X
  pub bytes_are : slot width bs k ≡ f is

-- record k is the first that is no X
pub record FirstBad {X : Type 0} (f : X → List ℕ) (width : ℕ) (bs : List ℕ) (k : ℕ) : Type 0 where
  pub bad : Bad f width bs k
  pub good_before : (j : ℕ) → j < k → Good f width bs j

-- bytes as long as so many records, at most n
pub record WholeRecords (width n : ℕ) (bs : List ℕ) : Type 0 where
  pub count : ℕ
  pub length_is : length bs ≡ width * count
  pub few : count ≤ n

-- these records are what the bytes encode, or there is a first that is none
abbrev pub RecordsRead : {X : Type 0} → (X → List ℕ) → ℕ → List ℕ → List X → Result (Unit {0}) BadRecord → Type 0
RecordsRead f width bs xs (Ok u) = bs ≡ flat_map f xs
RecordsRead f width bs xs (Err e) = (width * e.number < length bs) × FirstBad f width bs e.number
