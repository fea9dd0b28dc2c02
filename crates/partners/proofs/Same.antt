-- Faults are the same where their codes are.
use Rattle.std.proofs.Common.{◌≡◌, ◌≤◌}
use mathlib.Core.HLevel.{is_prop→PathP}
use native.Mathlib.Bridge.{le_prop}
use Rattle.partners.specs.declared.fault.Fault.{Fault}
use Rattle.partners.specs.Answers.{fault_code}

pub same_fault : (f g : Fault) → fault_code f ≡ fault_code g → f ≡ g
same_fault f g e = λ i. record { code = e i; some = is_prop→PathP (λ j. 1 ≤ e j) (λ j. le_prop) f.some g.some i }
