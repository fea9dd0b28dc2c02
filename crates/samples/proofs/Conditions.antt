-- The worked examples of transition texts, by computing.
use Rattle.std.proofs.Common.{true, false, not, [], ◌∷◌, pos, Some, sym, refl, ap, arith}
use Rattle.values.specs.declared.amount.Comparison.TheVariants.{Less, Unequal}
use Rattle.grammar.specs.Symbols.{truth_word, opening, closing, operand, sign, bad, field, number}
use Rattle.grammar.specs.Grammar.{one_term, or_term, one_factor, and_factor, of_not, of_parentheses, of_truth, of_comparison}
use Rattle.grammar.proofs.Whole.{failed_fault}
use Rattle.tokens.specs.Classes.{class}
use Rattle.conditions.specs.Truths.{amount_of, compared}
use Rattle.samples.specs.Conditions.{BlankUnequalFalse, NotBlankLessTrue, AndBeforeOr, MissingSign, LeftOpen, MinusZero, ConditionSamples}

blank_unequal_false : BlankUnequalFalse
unfolding class
blank_unequal_false c e = record {
  tree = _;
  reads = one_term (one_factor of_comparison);
  answer_is = sym (ap (λ f. compared Unequal (amount_of f) (Some (pos 5))) e);
}

not_blank_less_true : NotBlankLessTrue
unfolding class
not_blank_less_true c e = record {
  tree = _;
  reads = one_term (one_factor (of_not of_comparison));
  answer_is = sym (ap (λ f. not (compared Less (amount_of f) (Some (pos 5)))) e);
}

and_before_or : AndBeforeOr
unfolding class
and_before_or c = record {
  tree = _;
  reads = or_term {ts = truth_word true ∷ []} (one_term (one_factor of_truth)) (and_factor {ts = truth_word false ∷ []} (one_factor of_truth) of_truth);
  answer_is = refl;
}

missing_sign : MissingSign
unfolding class
missing_sign = failed_fault (record {
  used = (0, operand (field 0)) ∷ [];
  rest = (3, operand (number (pos 5))) ∷ [];
  more = sign Less ∷ operand (number (pos 5)) ∷ [];
  tree = _;
  split = refl;
  place = refl;
  goes = one_term (one_factor of_comparison);
  stops = λ d. refl;
})

left_open : LeftOpen
unfolding class
left_open = failed_fault (record {
  used = (0, opening) ∷ (1, operand (field 0)) ∷ (3, sign Less) ∷ (4, operand (number (pos 1))) ∷ [];
  rest = [];
  more = closing ∷ [];
  tree = _;
  split = refl;
  place = refl;
  goes = one_term (one_factor (of_parentheses {ts = operand (field 0) ∷ sign Less ∷ operand (number (pos 1)) ∷ []} (one_term (one_factor of_comparison))));
  stops = λ d. omega arith;
})

minus_zero : MinusZero
unfolding class
minus_zero = failed_fault (record {
  used = [];
  rest = (0, bad) ∷ (3, sign Less) ∷ (5, operand (number (pos 1))) ∷ [];
  more = truth_word true ∷ [];
  tree = _;
  split = refl;
  place = refl;
  goes = one_term (one_factor of_truth);
  stops = λ d. refl;
})

pub condition_samples : ConditionSamples
condition_samples = record {
  blank_unequal_false = blank_unequal_false;
  not_blank_less_true = not_blank_less_true;
  and_before_or = and_before_or;
  missing_sign = missing_sign;
  left_open = left_open;
  minus_zero = minus_zero;
}
