-- What a partner answers.
use Rattle.std.specs.Prelude.{ℕ}
use Rattle.values.specs.declared.container.Container.{Container}
use Rattle.partners.specs.declared.fault.Fault.{Fault}

abbrev pub fault_code : Fault → ℕ
fault_code f = f.code

-- one container or one fault
pub data Answer : Type 0 where
  gives : Container → Answer
  faults : Fault → Answer

-- for each operation and input
abbrev pub Answers : Type 0
Answers = ℕ → Container → Answer

-- an answer with no more of a fault than its code
pub data Plain : Type 0 where
  output : Container → Plain
  code : ℕ → Plain

abbrev pub plain : Answer → Plain
plain (gives c) = output c
plain (faults f) = code (fault_code f)
