-- What a draft holds, and what reading one from bytes answers.
use Rattle.std.specs.Prelude.{◌≡◌, ℕ, ◌<◌, ◌≤◌, List, [], map, length, Some, None, Ok, Err, Option, Result, slice_index_or}
use Rattle.lists.specs.Lists.{items}
use Rattle.parts.specs.declared.Activity.{Activity}
use Rattle.parts.specs.declared.Link.{Link}
use Rattle.parts.specs.declared.Connector.{Connector}
use Rattle.conditions.specs.Texts.{text_bytes}
use Rattle.layout.specs.declared.draft.Draft.{Draft}
use Rattle.layout.specs.declared.refusal.LayoutRefusal.{LayoutRefusal}
use Rattle.layout.specs.Layout.{Parts, WithinLimits, encode}
use Rattle.layout.specs.Verdicts.{Judged, accepted, refused}

-- the elements of its lists
abbrev pub parts_of : Draft → Parts
parts_of d = record {
  activities = items d.activities;
  links = items d.links;
  connectors = items d.connectors;
  texts = map text_bytes (items d.texts);
}

abbrev pub no_parts : Parts
no_parts = record { activities = []; links = []; connectors = []; texts = [] }

-- the answer is the verdict on the bytes
abbrev pub LayoutRead : List ℕ → Result Draft LayoutRefusal → Type 0
LayoutRead bs (Ok d) = Judged bs (accepted (parts_of d))
LayoutRead bs (Err e) = Judged bs (refused e)

-- it is a draft, and holds these parts
abbrev pub Holds : Parts → Result Draft LayoutRefusal → Type 0
Holds p (Ok d) = parts_of d ≡ p
Holds p (Err e) = ⊥

-- where the bytes are the encoding of parts within the limits, the answer holds these parts
abbrev pub ReadAsWritten : List ℕ → Result Draft LayoutRefusal → Type 0
ReadAsWritten bs r = (p : Parts) → WithinLimits p → bs ≡ encode p → Holds p r

-- element i of a list, where there is one
abbrev pub ElementAt : {X Y : Type 0} → (X → Y) → Y → List Y → ℕ → Option X → Type 0
ElementAt value none ys i (Some x) = (i < length ys) × (value x ≡ slice_index_or ys i none)
ElementAt value none ys i None = length ys ≤ i

-- records of zeros, which stand for what a list lacks
abbrev pub zero_activity : Activity
zero_activity = record { operation = 0; priority = 0; flags = 0 }

abbrev pub zero_link : Link
zero_link = record { source = 0; target = 0 }

abbrev pub zero_connector : Connector
zero_connector = record { target = 0; target_field = 0; kind = 0; source = 0; source_field = 0 }
