-- Whether an earlier connector has the target activity and field of a connector.
use Rattle.std.proofs.Common.{ℕ, ◌<◌, List, length, take, ◌∙◌, ap, arith}
use Rattle.std.proofs.lemmas.List.{get_or-take, length-take-le}
use Rattle.parts.specs.declared.Connector.{Connector}
use Rattle.rules.specs.Rules.{connector_at, Named, Proper, TakenBefore, TakenIn}

-- the earlier ones are those in front of it
taken_in : (cs : List Connector) (i : ℕ) → i < length cs → TakenBefore cs i → TakenIn (take i cs) (connector_at cs i)
taken_in cs i h (k, before, target, field) =
    let same = get_or-take i cs k (record { target = 0; target_field = 0; kind = 0; source = 0; source_field = 0 }) before in
    (k, omega (arith, length-take-le i cs (omega arith), before), ap (λ (c : Connector). c.target) same ∙ target, ap (λ (c : Connector). c.target_field) same ∙ field)

pub proper : (n : ℕ) (cs : List Connector) (i : ℕ) → i < length cs → Named n (connector_at cs i) → (TakenIn (take i cs) (connector_at cs i) → ⊥) → Proper n cs i
proper n cs i h named alone = record { named = named; alone = λ t. alone (taken_in cs i h t) }
