-- Values are equal where they are the same.
use Rattle.std.proofs.Common.{◌≡◌, Bool, true, false, refl, sym, ap}
use mathlib.Core.Bool.{true≢false}
use mathlib.Core.Path.{subst⁻¹}
use Rattle.std.specs.Prelude.{Decides}
use Rattle.std.specs.Cmp.{signed_Decides}
use Rattle.std.specs.Cmp.Lexicographic.{pointwise_decides}
use Rattle.values.specs.declared.amount.Amount.{Amount}
use Rattle.values.specs.declared.field.Field.{Field}
use Rattle.values.specs.declared.field.Field.TheVariants.{Blank, Number}
use Rattle.values.specs.declared.container.Container.{Container}
use Rattle.values.specs.Amounts.{size}
use Rattle.values.specs.Equality.{amount_eq, field_eq, container_eq}
use Rattle.values.specs.Same.{same_amount, same_container}

pub amount_eq_decides : (a b : Amount) → Decides (amount_eq a b) (a ≡ b)
amount_eq_decides a b =
    let d = signed_Decides (size a) (size b) in
    (λ t. same_amount a b (d.0 t), λ e. d.1 (ap size e))

abbrev is_blank : Field → Bool
is_blank Blank = true
is_blank (Number a) = false

abbrev amount_or : Amount → Field → Amount
amount_or d Blank = d
amount_or d (Number a) = a

pub field_eq_decides : (f g : Field) → Decides (field_eq f g) (f ≡ g)
field_eq_decides Blank Blank = (λ t. refl, λ e. refl)
field_eq_decides Blank (Number b) = (λ t. absurd (true≢false (sym t)), λ e. absurd (true≢false (ap is_blank e)))
field_eq_decides (Number a) Blank = (λ t. absurd (true≢false (sym t)), λ e. absurd (true≢false (ap is_blank (sym e))))
field_eq_decides (Number a) (Number b) =
    let d = amount_eq_decides a b in
    (λ t. ap Number (d.0 t), λ e. d.1 (ap (amount_or a) e))

pub container_eq_decides : (c d : Container) → Decides (container_eq c d) (c ≡ d)
container_eq_decides c d =
    let e = pointwise_decides field_eq_decides c.fields d.fields in
    (λ t. same_container c d (e.0 t), λ s. e.1 (ap (λ (x : Container). x.fields) s))

-- a test that answers as one that decides sameness decides it too
pub decided_as : {X : Type 0} (f : X → X → Bool) {e : X → X → Bool} → ((a b : X) → e a b ≡ f a b) → ((a b : X) → Decides (f a b) (a ≡ b)) → (a b : X) → Decides (e a b) (a ≡ b)
decided_as f same d a b = subst⁻¹ (λ t. Decides t (a ≡ b)) (same a b) (d a b)
