-- The rules of a definition, in which order they are checked, and the first that is broken.
use Rattle.std.specs.Prelude.{◌≡◌, ℕ, suc, ◌+◌, ◌-◌, ◌*◌, ◌<◌, cond, ◌⊎◌, List, [], ◌∷◌, length, Ok, Err, Result, ◌==◌, ◌≢◌, nat_lt, slice_index_or}
use Rattle.parts.specs.declared.Activity.{Activity}
use Rattle.parts.specs.declared.Link.{Link}
use Rattle.parts.specs.declared.Connector.{Connector}
use Rattle.grammar.specs.Grammar.{Kind, transition, join}
use Rattle.conditions.specs.Texts.{FaultPlace}
use Rattle.layout.specs.Layout.{Parts}
use Rattle.path_laws.specs.Paths.{link_at, Reaches}
use Rattle.rules.specs.declared.refusal.RuleRefusal.{RuleRefusal}
use Rattle.rules.specs.declared.refusal.RuleRefusal.TheVariants.{Flags, NoEnd, Twice, Cycle, BadConnector, NoPath, BadText}

abbrev pub activity_at : List Activity → ℕ → Activity
activity_at xs i = slice_index_or xs i (record { operation = 0; priority = 0; flags = 0 })

abbrev pub connector_at : List Connector → ℕ → Connector
connector_at xs i = slice_index_or xs i (record { target = 0; target_field = 0; kind = 0; source = 0; source_field = 0 })

-- an earlier link has the same source and target
abbrev pub LinkedBefore : List Link → ℕ → Type 0
LinkedBefore links i = (k : ℕ) × (k < i) × ((link_at links k).source ≡ (link_at links i).source) × ((link_at links k).target ≡ (link_at links i).target)

-- kind 1 takes a field of the case, and its source is 0; kind 2 takes a field of an activity's output
abbrev pub Sourced : ℕ → Connector → Type 0
Sourced n c = ((c.kind ≡ 1) × (c.source ≡ 0)) ⊎ ((c.kind ≡ 2) × (c.source < n))

-- an earlier connector has the same target activity and field
abbrev pub TakenBefore : List Connector → ℕ → Type 0
TakenBefore cs i = (k : ℕ) × (k < i) × ((connector_at cs k).target ≡ (connector_at cs i).target) × ((connector_at cs k).target_field ≡ (connector_at cs i).target_field)

-- one of these connectors has the target activity and field of a connector
abbrev pub TakenIn : List Connector → Connector → Type 0
TakenIn cs c = (k : ℕ) × (k < length cs) × ((connector_at cs k).target ≡ c.target) × ((connector_at cs k).target_field ≡ c.target_field)

-- what a connector names is there, among so many activities
pub record Named (n : ℕ) (c : Connector) : Type 0 where
  pub target_is : c.target < n
  pub target_field_is : c.target_field < 8
  pub source_field_is : c.source_field < 8
  pub sourced : Sourced n c

-- connector i keeps its rules
pub record Proper (n : ℕ) (cs : List Connector) (i : ℕ) : Type 0 where
  pub named : Named n (connector_at cs i)
  pub alone : TakenBefore cs i → ⊥

-- the numbers, from k on, of the links into an activity
abbrev pub into : ℕ → List Link → ℕ → List ℕ
into k [] a = []
into k (l ∷ ls) a = cond (l.target == a) (k ∷ into (suc k) ls a) (into (suc k) ls a)

-- text k is the transition text of link k, or past the links the join text of an activity
abbrev pub kind_of_text : List Link → ℕ → Kind
kind_of_text links k = cond (nat_lt k (length links)) transition (join (into 0 links (k - length links)))

-- the rule that a refusal names is broken at the item that it names
abbrev pub Broken : Parts → RuleRefusal → Type 0
Broken p (Flags i) = (i < length p.activities) × ((activity_at p.activities i).flags ≢ 0)
Broken p (NoEnd i) = (i < length p.links) × (((link_at p.links i).source < length p.activities) × ((link_at p.links i).target < length p.activities) → ⊥)
Broken p (Twice i) = (i < length p.links) × LinkedBefore p.links i
Broken p (Cycle a) = (a < length p.activities) × Reaches p.links a a
Broken p (BadConnector i) = (i < length p.connectors) × (Proper (length p.activities) p.connectors i → ⊥)
Broken p (NoPath i) = (i < length p.connectors) × ((connector_at p.connectors i).kind ≡ 2) × (Reaches p.links (connector_at p.connectors i).source (connector_at p.connectors i).target → ⊥)
Broken p (BadText i place) = (i < length p.texts) × FaultPlace (kind_of_text p.links i) (slice_index_or p.texts i []) place

-- in which order: flags, links one by one, cycles, connectors one by one, texts one by one
abbrev pub stage : RuleRefusal → ℕ
stage (Flags i) = 1
stage (NoEnd i) = 2
stage (Twice i) = 2
stage (Cycle i) = 3
stage (BadConnector i) = 4
stage (NoPath i) = 4
stage (BadText i place) = 5

abbrev pub turn : RuleRefusal → ℕ
turn (Flags i) = i
turn (NoEnd i) = 2 * i
turn (Twice i) = 2 * i + 1
turn (Cycle i) = i
turn (BadConnector i) = 2 * i
turn (NoPath i) = 2 * i + 1
turn (BadText i place) = i

abbrev pub Before : RuleRefusal → RuleRefusal → Type 0
Before d e = (stage d < stage e) ⊎ ((stage d ≡ stage e) × (turn d < turn e))

-- nothing that is checked before this is broken
abbrev pub Clear : Parts → RuleRefusal → Type 0
Clear p e = (d : RuleRefusal) → Before d e → Broken p d → ⊥

abbrev pub FirstBroken : Parts → RuleRefusal → Type 0
FirstBroken p e = Broken p e × Clear p e

abbrev pub KeepsAll : Parts → Type 0
KeepsAll p = (d : RuleRefusal) → Broken p d → ⊥

-- all is well up to this check, or some check before it is the first that fails
abbrev pub Checks : Parts → RuleRefusal → Result (Unit {0}) RuleRefusal → Type 0
Checks p to (Ok u) = Clear p to
Checks p to (Err e) = FirstBroken p e

-- parts keep all rules, or break one first
abbrev pub RulesChecked : Parts → Result (Unit {0}) RuleRefusal → Type 0
RulesChecked p (Ok u) = KeepsAll p
RulesChecked p (Err e) = FirstBroken p e

-- which rule is broken first is one, and parts that break one do not keep them all
pub record OneRule (p : Parts) : Type 0 where
  pub one_first : (d e : RuleRefusal) → FirstBroken p d → FirstBroken p e → d ≡ e
  pub not_both : (e : RuleRefusal) → KeepsAll p → FirstBroken p e → ⊥

-- the number and the place of a refusal
abbrev pub cause_of : RuleRefusal → ℕ
cause_of (Flags i) = 5
cause_of (NoEnd i) = 6
cause_of (Twice i) = 7
cause_of (Cycle a) = 8
cause_of (BadConnector i) = 9
cause_of (NoPath i) = 10
cause_of (BadText i place) = 11

abbrev pub place_of : RuleRefusal → ℕ
place_of (Flags i) = i
place_of (NoEnd i) = i
place_of (Twice i) = i
place_of (Cycle a) = a
place_of (BadConnector i) = i
place_of (NoPath i) = i
place_of (BadText i place) = i * 256 + place
