use Rattle.std.proofs.Common.{◌≡◌, ℕ, List, ◌∷◌, length, Option, sym, refl, ap, ◌∙◌, arith}
use Rattle.values.specs.declared.amount.Comparison.{Comparison}
use Rattle.grammar.specs.Grammar.{transition, Tree}
use Rattle.grammar.specs.Parsing.{want_sign, want_operand, place_of}
use Rattle.grammar.specs.Symbols.{Symbol, operand}
use Rattle.grammar.specs.Faults.{Located}
use Rattle.grammar.proofs.Joins.{none_fails, no_sign, no_operand, no_sign_fails, no_operand_fails, comparison_done}
use Rattle.tokens.specs.declared.symbol.Symbol as code
use Rattle.tokens.specs.declared.symbol.Operand.{Operand}
use Rattle.tokens.specs.Symbols.{meaning, side}
use Rattle.tokens.specs.Following.{to_come}
use Rattle.conditions.specs.Truths.{compared}
use Rattle.conditions.specs.Steps.{SignIs, OperandIs, end_of}
use Rattle.conditions.proofs.Parts.{kept_same, kept_then, bad_follows, unread_barred, failed_on, failed_over, read_over}
use Rattle.conditions.proofs.parser.Parser.comparison.Goals as goal

-- the symbol that was read, by what it is
read_as : {ts us : List Located} {at : ℕ} {x y : Symbol} → ts ≡ (at, x) ∷ us → x ≡ y → ts ≡ (at, y) ∷ us
read_as {us = us} {at} e i = e ∙ ap (λ z. (at, z) ∷ us) i

pub returns-in_default : goal.returns-in_default
returns-in_default c = record { kept = kept_same; says = failed_over c.in_default.is (none_fails (λ d. refl) refl) }

-- what the readings of a sign and of an operand ensure
abbrev sign_read : code.Symbol → Option Comparison → Type 0
sign_read s r = code.Symbol × SignIs s r

abbrev operand_read : code.Symbol → Option Operand → Type 0
operand_read s r = code.Symbol × OperandIs s r

pub returns-in_err-sign : goal.returns-in_err-sign
returns-in_err-sign c =
    let self = c.args.self.now in
    let stops = unread_barred transition sign_read want_sign (λ s h. no_sign transition (meaning s) h.1) (λ d. refl) (end_of self) (to_come self.lexer) c.in_err-sign.ensures.says in
    failed_on c.from_residual.result c.from_residual.ensures.1 c.in_err-sign.ensures.kept (failed_over c.in-Transition.is (no_sign_fails refl stops.0 stops.1))

pub returns-in_err-right : goal.returns-in_err-right
returns-in_err-right c =
    let first = c.in_ok-sign.ensures in
    let signed = read_as first.says.2 first.says.3.1 in
    let stops = unread_barred transition operand_read want_operand (λ s h. no_operand transition (meaning s) h.1) (λ d. refl) (end_of c.next_as.new.self) (to_come c.next_as.new.self.lexer) c.in_err-right.ensures.says in
    failed_on c.from_residual-in_err-right.result c.from_residual-in_err-right.ensures.1 (kept_then first.kept c.in_err-right.ensures.kept)
    (failed_over c.in-Transition.is (no_operand_fails (ap (λ ts. (c.args.place, operand (side c.args.left)) ∷ ts) signed) stops.0 (stops.1 ∙ ap (λ n. place_of n (to_come c.next_as.new.self.lexer)) (ap length first.kept.text_is))))

-- the three symbols of a comparison
compared_from : {p a b : ℕ} {x s y : Symbol} {ts us vs ws : List Located} → ts ≡ (a, s) ∷ us → us ≡ (b, y) ∷ vs → vs ≡ ws → (p, x) ∷ ts ≡ (p, x) ∷ (a, s) ∷ (b, y) ∷ ws
compared_from {p} {a} {b} {x} {s} {y} e f h = ap (λ l. (p, x) ∷ l) (e ∙ ap (λ l. (a, s) ∷ l) (f ∙ ap (λ l. (b, y) ∷ l) h))

pub returns-in_err-advance : goal.returns-in_err-advance
returns-in_err-advance c =
    let first = c.in_ok-sign.ensures in
    let second = c.in_ok-right.ensures in
    let took = compared_from {p = c.args.place} {x = operand (side c.args.left)} (read_as first.says.2 first.says.3.1) (read_as second.says.2 second.says.3.1) refl in
    failed_on c.from_residual-in_err-advance.result c.from_residual-in_err-advance.ensures.1 (kept_then (kept_then first.kept second.kept) c.in_err-advance.ensures.kept)
    (failed_over c.in-Transition.is (bad_follows (comparison_done {means = λ (t : Tree). Unit {0}} took tt) c.in_err-advance.ensures.says))

pub returns : goal.returns
returns c =
    let first = c.in_ok-sign.ensures in
    let second = c.in_ok-right.ensures in
    let third = c.in_ok-advance.ensures in
    let took = compared_from {p = c.args.place} {x = operand (side c.args.left)} (read_as first.says.2 first.says.3.1) (read_as second.says.2 second.says.3.1) (sym third.says.0) in
    record {
      kept = kept_then (kept_then first.kept second.kept) third.kept;
      says = read_over c.in-Transition.is (record {
        done = comparison_done took (c.compare.ensures ∙ (λ i. compared c.in_ok-sign.sign (c.side_of.ensures i) (c.side_of-2.ensures i)));
        ready = third.says.1;
        shorter = omega (arith, third.says.2, ap length first.says.2, ap length second.says.2);
      });
    }
