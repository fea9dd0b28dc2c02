-- The bytes of a rule table, and the verdict on any bytes.
use Rattle.std.specs.Prelude.{◌≡◌, ℕ, ◌+◌, ◌*◌, ◌<◌, ◌≤◌, List, [], ◌++◌, length, take, drop, Ok, Err, Result}
use Rattle.std.specs.List.{flat_map}
use Rattle.partners.specs.declared.partner.Partner.{Ghosts as Meaning}
use Rattle.tables.specs.declared.row.Row.{Row}
use Rattle.tables.specs.declared.table.RuleTable.{RuleTable}
use Rattle.tables.specs.declared.refusal.TableRefusal.{TableRefusal}
use Rattle.tables.specs.declared.refusal.TableRefusal.TheVariants.{Size, BadRow}
use Rattle.tables.specs.Layout.{two_bytes, row_bytes}
use Rattle.tables.specs.Records.{FirstBad}
use Rattle.tables.specs.Tables.{rows_of, table_answers}

-- the encoding of rows: how many, and one after the other
abbrev pub table_bytes : List Row → List ℕ
table_bytes rows = two_bytes (length rows) ++ flat_map row_bytes rows

-- a count of at most 64, and 93 bytes for each row
pub record Sized (bs : List ℕ) (count : ℕ) : Type 0 where
  pub count_is : take 2 bs ≡ two_bytes count
  pub few : count ≤ 64
  pub length_is : length bs ≡ 2 + 93 * count

-- there are that many rows, and row k is the lowest that is bad
pub record LowestBad (bs : List ℕ) (k : ℕ) : Type 0 where
  pub count : ℕ
  pub sized : Sized bs count
  pub there : k < count
  pub first : FirstBad row_bytes 93 (drop 2 bs) k

abbrev pub TableRefused : List ℕ → TableRefusal → Type 0
TableRefused bs Size = (count : ℕ) → Sized bs count → ⊥
TableRefused bs (BadRow k) = LowestBad bs k

-- at most 64 rows are what the bytes encode
pub record Encoded (bs : List ℕ) (rows : List Row) : Type 0 where
  pub few : length rows ≤ 64
  pub bytes_are : bs ≡ table_bytes rows

-- a table of these rows answers by them and is never busy
pub record TableOf (meaning : Meaning RuleTable) (rows : List Row) (t : RuleTable) : Type 0 where
  pub rows_are : rows_of t ≡ rows
  pub answers_are : meaning.answers t ≡ table_answers rows
  pub busy_is : meaning.busy t ≡ 0

abbrev pub EmptyTable : Meaning RuleTable → RuleTable → Type 0
EmptyTable meaning t = TableOf meaning [] t

-- the table is replaced by that of the rows that the bytes encode
pub record Replaced (meaning : Meaning RuleTable) (bs : List ℕ) (after : RuleTable) : Type 0 where
  pub rows : List Row
  pub encoded : Encoded bs rows
  pub table_is : TableOf meaning rows after

-- it is replaced, or the bytes are refused and it is as it was
abbrev pub TableRead : Meaning RuleTable → List ℕ → RuleTable → RuleTable → Result (Unit {0}) TableRefusal → Type 0
TableRead meaning bs before after (Ok u) = Replaced meaning bs after
TableRead meaning bs before after (Err e) = TableRefused bs e × (after ≡ before)

pub data Verdict : Type 0 where
  accepted : List Row → Verdict
  refused : TableRefusal → Verdict

abbrev pub Judged : List ℕ → Verdict → Type 0
Judged bs (accepted rows) = Encoded bs rows
Judged bs (refused e) = TableRefused bs e

-- no bytes have two verdicts
abbrev pub OneVerdict : List ℕ → Type 0
OneVerdict bs = (v w : Verdict) → Judged bs v → Judged bs w → v ≡ w

-- no two lists of rows have the same bytes
abbrev pub OneEncoding : Type 0
OneEncoding = (rows others : List Row) → table_bytes rows ≡ table_bytes others → rows ≡ others
