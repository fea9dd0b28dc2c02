-- The verdict on any bytes: the definition that they are, or why they are none.
use Rattle.std.specs.Prelude.{◌≡◌, ℕ, List}
use Rattle.layout.specs.Layout.{Parts, WithinLimits, encode}
use Rattle.layout.specs.Verdicts.{Refused}
use Rattle.rules.specs.declared.refusal.RuleRefusal.{RuleRefusal}
use Rattle.rules.specs.Rules.{FirstBroken, KeepsAll}
use Rattle.flows.specs.declared.refusal.DefinitionRefusal.{DefinitionRefusal}
use Rattle.flows.specs.declared.refusal.DefinitionRefusal.TheVariants.{Layout, Rule}

-- the bytes are the encoding of these parts, which are within the limits and keep all rules
pub record Defines (bs : List ℕ) (p : Parts) : Type 0 where
  pub limits : WithinLimits p
  pub written : bs ≡ encode p
  pub rules : KeepsAll p

-- the bytes are the encoding of parts within the limits, and this is the first rule that these break
pub record Breaks (bs : List ℕ) (e : RuleRefusal) : Type 0 where
  pub parts : Parts
  pub limits : WithinLimits parts
  pub written : bs ≡ encode parts
  pub first : FirstBroken parts e

pub data Verdict : Type 0 where
  accepted : Parts → Verdict
  refused : DefinitionRefusal → Verdict

abbrev pub Judged : List ℕ → Verdict → Type 0
Judged bs (accepted p) = Defines bs p
Judged bs (refused (Layout e)) = Refused bs e
Judged bs (refused (Rule e)) = Breaks bs e

-- no bytes have two verdicts
abbrev pub OneVerdict : List ℕ → Type 0
OneVerdict bs = (v w : Verdict) → Judged bs v → Judged bs w → v ≡ w
