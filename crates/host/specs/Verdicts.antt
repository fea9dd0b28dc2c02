-- The verdict on bytes, in two numbers.
use Rattle.std.specs.Prelude.{◌≡◌, ℕ, List}
use Rattle.flows.specs.Refusals.{cause_of, place_of}
use Rattle.flows.specs.Verdicts.{Verdict, accepted, refused, Judged}
use Rattle.host.specs.declared.JirvelkoVerdict.{JirvelkoVerdict}

abbrev pub cause_number : Verdict → ℕ
cause_number (accepted p) = 0
cause_number (refused e) = cause_of e

abbrev pub place_number : Verdict → ℕ
place_number (accepted p) = 0
place_number (refused e) = place_of e

-- the numbers are those of the verdict on the bytes
pub record Told (bs : List ℕ) (told : JirvelkoVerdict) : Type 0 where
  pub verdict : Verdict
  pub judged : Judged bs verdict
  pub cause_is : told.cause ≡ cause_number verdict
  pub place_is : told.place ≡ place_number verdict
