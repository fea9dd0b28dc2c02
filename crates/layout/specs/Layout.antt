-- The layout of a definition: its parts, the items that it is written as, and the bytes of these.
use Rattle.std.specs.Prelude.{◌≡◌, ℕ, ◌+◌, ◌/◌, ◌%◌, ◌<◌, ◌≤◌, List, [], ◌∷◌, ◌++◌, length}
use Rattle.std.specs.List.{flat_map, AllByRecursion}
use Rattle.parts.specs.declared.Activity.{Activity}
use Rattle.parts.specs.declared.Link.{Link}
use Rattle.parts.specs.declared.Connector.{Connector}

-- a number in two bytes, the lowest first
abbrev pub two_bytes : ℕ → List ℕ
two_bytes n = n % 256 ∷ n / 256 ∷ []

abbrev pub activity_bytes : Activity → List ℕ
activity_bytes a = two_bytes a.operation ++ (a.priority ∷ a.flags ∷ [])

abbrev pub link_bytes : Link → List ℕ
link_bytes l = l.source ∷ l.target ∷ []

abbrev pub connector_bytes : Connector → List ℕ
connector_bytes c = c.target ∷ c.target_field ∷ c.kind ∷ c.source ∷ c.source_field ∷ []

-- what stands in a layout, one after the other; the bytes of a record and of a text are any bytes
pub data Item : Type 0 where
  a_count : ℕ → Item
  a_record : List ℕ → Item
  a_length : ℕ → Item
  a_text : List ℕ → Item

abbrev pub item_bytes : Item → List ℕ
item_bytes (a_count n) = two_bytes n
item_bytes (a_record bs) = bs
item_bytes (a_length n) = n ∷ []
item_bytes (a_text bs) = bs

abbrev pub bytes_of : List Item → List ℕ
bytes_of items = flat_map item_bytes items

-- what a definition is made of; a text is its bytes
pub record Parts : Type 0 where
  pub activities : List Activity
  pub links : List Link
  pub connectors : List Connector
  pub texts : List (List ℕ)

-- a record is one item, a text is its length and its content
abbrev pub record_items : {X : Type 0} → (X → List ℕ) → X → List Item
record_items f x = a_record (f x) ∷ []

abbrev pub text_items : List ℕ → List Item
text_items t = a_length (length t) ∷ a_text t ∷ []

-- a section is its count and then each of its elements; what follows it comes last
abbrev pub section_items : {X : Type 0} → (X → List Item) → List X → List Item → List Item
section_items f xs after = a_count (length xs) ∷ (flat_map f xs ++ after)

abbrev pub items_of : Parts → List Item
items_of p =
    section_items (record_items activity_bytes) p.activities
    (section_items (record_items link_bytes) p.links
    (section_items (record_items connector_bytes) p.connectors
    (section_items text_items p.texts [])))

-- the bytes that parts are written as
abbrev pub encode : Parts → List ℕ
encode p = bytes_of (items_of p)

abbrev pub least_text_length : ℕ
least_text_length = 1

abbrev pub greatest_text_length : ℕ
greatest_text_length = 60

abbrev pub GoodLength : ℕ → Type 0
GoodLength n = (least_text_length ≤ n) × (n ≤ greatest_text_length)

abbrev pub GoodText : List ℕ → Type 0
GoodText t = GoodLength (length t)

abbrev pub Byte : ℕ → Type 0
Byte b = b < 256

-- counts and lengths are within their limits
pub record Counts (p : Parts) : Type 0 where
  pub some_activities : 1 ≤ length p.activities
  pub few_activities : length p.activities ≤ 32
  pub few_links : length p.links ≤ 128
  pub few_connectors : length p.connectors ≤ 256
  pub as_many_texts : length p.texts ≡ length p.links + length p.activities
  pub good_texts : AllByRecursion GoodText p.texts

-- and so is every number: each fits the bytes that it is written in
pub record WithinLimits (p : Parts) : Type 0 where
  pub counts : Counts p
  pub in_bytes : AllByRecursion Byte (encode p)
