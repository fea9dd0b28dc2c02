-- Values with an invariant are the same where what they hold is.
use Rattle.std.proofs.Common.{◌≡◌, ◌<◌, length, ℤ, pos, negsuc, ◌<ℤ◌}
use mathlib.Core.HLevel.{is_prop→PathP}
use native.Mathlib.Bridge.{le_prop}
use native.Mathlib.Nat.{ℕ_set}
use lib.Dec.{T_prop}
use lib.Signed.{lt_z}
use Rattle.values.specs.declared.amount.Amount.{Amount}
use Rattle.values.specs.declared.field.FieldNumber.{FieldNumber}
use Rattle.values.specs.declared.container.Container.{Container}

lt_prop : (x y : ℤ) → IsProp (x <ℤ y)
lt_prop x y p q = λ i. record { lt = T_prop (lt_z x y) p.lt q.lt i }

pub same_amount : (a b : Amount) → a.value ≡ b.value → a ≡ b
same_amount a b e = λ i. record {
  value = e i;
  above = is_prop→PathP (λ j. negsuc 999_999_999_999 <ℤ e j) (λ j. lt_prop _ _) a.above b.above i;
  below = is_prop→PathP (λ j. e j <ℤ pos 1_000_000_000_000) (λ j. lt_prop _ _) a.below b.below i;
}

pub same_number : (m n : FieldNumber) → m.number ≡ n.number → m ≡ n
same_number m n e = λ i. record {
  number = e i;
  below = is_prop→PathP (λ j. e j < 8) (λ j. le_prop) m.below n.below i;
}

pub same_container : (c d : Container) → c.fields ≡ d.fields → c ≡ d
same_container c d e = λ i. record {
  fields = e i;
  eight = is_prop→PathP (λ j. length (e j) ≡ 8) (λ j. ℕ_set _ _) c.eight d.eight i;
}
