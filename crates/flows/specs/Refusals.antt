-- The number and the place of each refusal.
use Rattle.std.specs.Prelude.{ℕ}
use Rattle.layout.specs.Refusals as layout
use Rattle.rules.specs.Rules as rules
use Rattle.flows.specs.declared.refusal.DefinitionRefusal.{DefinitionRefusal}
use Rattle.flows.specs.declared.refusal.DefinitionRefusal.TheVariants.{Layout, Rule}

abbrev pub cause_of : DefinitionRefusal → ℕ
cause_of (Layout e) = layout.cause_of e
cause_of (Rule e) = rules.cause_of e

abbrev pub place_of : DefinitionRefusal → ℕ
place_of (Layout e) = layout.place_of e
place_of (Rule e) = rules.place_of e
