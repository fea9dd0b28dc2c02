-- Worked examples of transition texts: their values and the places of their faults.
use Rattle.std.specs.Prelude.{◌≡◌, true, false, codes}
use Rattle.values.specs.declared.container.Container.{Container}
use Rattle.values.specs.declared.field.Field.TheVariants.{Blank}
use Rattle.values.specs.Layout.{field_at}
use Rattle.grammar.specs.Grammar.{transition}
use Rattle.conditions.specs.Texts.{Holding, FaultPlace}
use Rattle.conditions.specs.Values.{over_output}

-- a blank is not even unequal to a number
abbrev pub BlankUnequalFalse : Type 0
BlankUnequalFalse = (c : Container) → field_at c 0 ≡ Blank → Holding transition (over_output c) (codes "f0 != 5") false

-- not turns the false of a comparison with a blank
abbrev pub NotBlankLessTrue : Type 0
NotBlankLessTrue = (c : Container) → field_at c 1 ≡ Blank → Holding transition (over_output c) (codes "not f1 < 5") true

-- and binds closer than or
abbrev pub AndBeforeOr : Type 0
AndBeforeOr = (c : Container) → Holding transition (over_output c) (codes "true or false and false") true

-- a second operand stands where a sign must
abbrev pub MissingSign : Type 0
MissingSign = FaultPlace transition (codes "f0 5") 3

-- the text ends before its parenthesis is closed
abbrev pub LeftOpen : Type 0
LeftOpen = FaultPlace transition (codes "(f0<1") 5

-- a minus and a zero are no number
abbrev pub MinusZero : Type 0
MinusZero = FaultPlace transition (codes "-0 < 1") 0

pub record ConditionSamples : Type 0 where
  pub blank_unequal_false : BlankUnequalFalse
  pub not_blank_less_true : NotBlankLessTrue
  pub and_before_or : AndBeforeOr
  pub missing_sign : MissingSign
  pub left_open : LeftOpen
  pub minus_zero : MinusZero
