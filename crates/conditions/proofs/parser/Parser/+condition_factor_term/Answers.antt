use Rattle.std.proofs.Common.{◌≡◌, false, List, ◌∷◌, length, Some, sym, refl, ap, ◌∙◌, subst, arith, rules}
use Rattle.grammar.specs.Grammar.{Level, Tree}
use Rattle.grammar.specs.Faults.{Located}
use Rattle.grammar.specs.Parsing.{is_or, is_and}
use Rattle.grammar.specs.Symbols.{truth_word}
use Rattle.grammar.proofs.Joins.{ors, ands, Grown, grown_none, grown_more, all_done, first_fails, later_fails, truth_done, not_done, not_fails, open_fails}
use Rattle.tokens.specs.declared.symbol.Symbol.TheVariants.{Or, And}
use Rattle.conditions.specs.declared.ground.Ground.{Ground}
use Rattle.conditions.specs.declared.parser.Parser.{Parser}
use Rattle.conditions.specs.Truths.{Truth, negated, both, either}
use Rattle.conditions.specs.Values.{value, kind_of, tests_of}
use Rattle.conditions.specs.Steps.{Kept, headed, end_of}
use Rattle.conditions.proofs.Parts.{kept_same, kept_then, kept_lexed, followed, followed_none, found, missing, took_as, bad_follows, failed_on}
use Rattle.conditions.proofs.Reading.{failed_kept, read_kept, heads_ahead, ahead_is, no_first, stuck_at, stuck_end, closes}
use Rattle.conditions.proofs.parser.Parser.+condition_factor_term.Goals.{condition-in-Some-Or, condition-in_default, condition-in_default-2, term-in-Some-And, term-in_default, term-in_default-2}
use Rattle.conditions.proofs.parser.Parser.+condition_factor_term.Goals as goal

grown_over : {p q : Parser} {l : Level} {before after : List Located} {v w : Truth} → Kept p q → Grown (kind_of q.ground) l (value (tests_of q.ground)) before after v w → Grown (kind_of p.ground) l (value (tests_of p.ground)) before after v w
grown_over {l = l} {before} {after} {v} {w} k h = subst (λ (x : Ground). Grown (kind_of x) l (value (tests_of x)) before after v w) k.ground_is h

pub condition-returns-in_err-value : goal.condition-returns-in_err-value
condition-returns-in_err-value t c = failed_on c.from_residual.result c.from_residual.ensures.1 c.in_err-value.ensures.kept (first_fails ors c.in_err-value.ensures.says)

pub condition-loop-self-init : goal.condition-loop-self-init
condition-loop-self-init t c = let first = c.in_ok-value.ensures.says in (kept_same, omega arith, grown_none, first.done.ends, first.ready)

pub condition-returns-in_err-next : goal.condition-returns-in_err-next
condition-returns-in_err-next t c =
    let first = c.in_ok-value.ensures in
    let so_far = c.loop-self.invariant in
    let before = kept_then first.kept so_far.0 in
    let or_ahead : c.loop-self.self.ahead.symbol ≡ Some Or = elim c.match-matches.branch [ condition-in-Some-Or w ↦ search rules | condition-in_default w ↦ cc | condition-in_default-2 w ↦ cc ] in
    failed_on c.from_residual-in_err-next.result c.from_residual-in_err-next.ensures.1 (kept_then before c.in_err-next.ensures.kept)
    (later_fails ors first.says.done (grown_over first.kept so_far.2) (ahead_is c.loop-self.self Or or_ahead) (failed_kept before c.in_err-next.ensures.says))

pub condition-loop-self-preserved : goal.condition-loop-self-preserved
condition-loop-self-preserved t c =
    let so_far = c.loop-self.invariant in
    let or_ahead : c.loop-self.self.ahead.symbol ≡ Some Or = elim c.match-matches.branch [ condition-in-Some-Or w ↦ search rules | condition-in_default w ↦ cc | condition-in_default-2 w ↦ cc ] in
    let told = read_kept so_far.0 c.in_ok-next.ensures.says in (
      kept_then so_far.0 c.in_ok-next.ensures.kept,
      omega (arith, so_far.1, told.shorter),
      grown_more ors either (λ a b. refl) so_far.2 (ahead_is c.loop-self.self Or or_ahead) told.done c.disjunction-value.ensures,
      told.done.ends,
      told.ready,
    )

pub condition-returns : goal.condition-returns
condition-returns t c =
    let first = c.in_ok-value.ensures in
    let so_far = c.loop-self.invariant in
    let no_or : headed is_or c.loop-self.self.ahead.symbol ≡ false = elim c.match-matches.branch [ condition-in-Some-Or w ↦ cc | condition-in_default w ↦ search rules | condition-in_default-2 w ↦ search rules ] in
    record {
      kept = kept_then first.kept so_far.0;
      says = record {
        done = all_done ors first.says.done (grown_over first.kept so_far.2) (so_far.3, heads_ahead is_or c.loop-self.self so_far.4 ∙ no_or);
        ready = so_far.4;
        shorter = omega (arith, first.says.shorter, so_far.1);
      };
    }

pub term-returns-in_err-value : goal.term-returns-in_err-value
term-returns-in_err-value t c = failed_on c.from_residual.result c.from_residual.ensures.1 c.in_err-value.ensures.kept (first_fails ands c.in_err-value.ensures.says)

pub term-loop-self-init : goal.term-loop-self-init
term-loop-self-init t c = (kept_same, omega arith, grown_none, c.in_ok-value.ensures.says.ready)

pub term-returns-in_err-next : goal.term-returns-in_err-next
term-returns-in_err-next t c =
    let first = c.in_ok-value.ensures in
    let so_far = c.loop-self.invariant in
    let before = kept_then first.kept so_far.0 in
    let and_ahead : c.loop-self.self.ahead.symbol ≡ Some And = elim c.match-matches.branch [ term-in-Some-And w ↦ search rules | term-in_default w ↦ cc | term-in_default-2 w ↦ cc ] in
    failed_on c.from_residual-in_err-next.result c.from_residual-in_err-next.ensures.1 (kept_then before c.in_err-next.ensures.kept)
    (later_fails ands first.says.done (grown_over first.kept so_far.2) (ahead_is c.loop-self.self And and_ahead) (failed_kept before c.in_err-next.ensures.says))

pub term-loop-self-preserved : goal.term-loop-self-preserved
term-loop-self-preserved t c =
    let so_far = c.loop-self.invariant in
    let and_ahead : c.loop-self.self.ahead.symbol ≡ Some And = elim c.match-matches.branch [ term-in-Some-And w ↦ search rules | term-in_default w ↦ cc | term-in_default-2 w ↦ cc ] in
    let told = read_kept so_far.0 c.in_ok-next.ensures.says in (
      kept_then so_far.0 c.in_ok-next.ensures.kept,
      omega (arith, so_far.1, told.shorter),
      grown_more ands both (λ a b. refl) so_far.2 (ahead_is c.loop-self.self And and_ahead) told.done c.conjunction-value.ensures,
      told.ready,
    )

pub term-returns : goal.term-returns
term-returns t c =
    let first = c.in_ok-value.ensures in
    let so_far = c.loop-self.invariant in
    let no_and : headed is_and c.loop-self.self.ahead.symbol ≡ false = elim c.match-matches.branch [ term-in-Some-And w ↦ cc | term-in_default w ↦ search rules | term-in_default-2 w ↦ search rules ] in
    record {
      kept = kept_then first.kept so_far.0;
      says = record {
        done = all_done ands first.says.done (grown_over first.kept so_far.2) (heads_ahead is_and c.loop-self.self so_far.3 ∙ no_and);
        ready = so_far.3;
        shorter = omega (arith, first.says.shorter, so_far.1);
      };
    }

pub factor-returns-in_err-place : goal.factor-returns-in_err-place
factor-returns-in_err-place t c = failed_on c.from_residual.result c.from_residual.ensures.1 (kept_lexed c.args.self.now c.symbol.new.self c.in_err-place.ensures.text) (stuck_at c.in_err-place.ensures.symbol (λ d. refl))

pub factor-returns-in_err-symbol : goal.factor-returns-in_err-symbol
factor-returns-in_err-symbol t c =
    let none = missing c.in_ok-place.field-0.symbol c.ok_or.ensures.value c.in_err-symbol.was in
    let told = followed_none (end_of c.args.self.now) c.in_ok-place.field-0.symbol c.in_ok-place.ensures.symbol none.0 in
    failed_on c.from_residual-in_err-symbol.result c.from_residual-in_err-symbol.ensures.1 (kept_lexed c.args.self.now c.symbol.new.self c.in_ok-place.ensures.text)
    (stuck_end told.0 (sym (ap (λ f. f.place) none.1) ∙ told.2))

pub factor-returns-in_default : goal.factor-returns-in_default
factor-returns-in_default t c =
    let took = followed (end_of c.args.self.now) c.in_ok-place.field-0.symbol c.in_ok-place.ensures.symbol (found c.ok_or.ensures.ok_part c.in_ok-symbol.was) in
    record {
      kept = kept_lexed c.args.self.now c.symbol.new.self c.in_ok-place.ensures.text;
      says = stuck_at took (no_first c.in_ok-symbol.symbol c.in_default.not-Not c.in_default.not-Open c.in_default.not-Truth c.in_default.not-Operand c.in_default.not-Link _);
    }

pub factor-returns-in_err-value-in-Not : goal.factor-returns-in_err-value-in-Not
factor-returns-in_err-value-in-Not t c =
    let took = took_as (end_of c.args.self.now) c.in_ok-place.field-0.symbol c.in_ok-place.ensures.symbol c.ok_or.ensures.ok_part c.in_ok-symbol.was c.in-Not.is in
    let before = kept_lexed c.args.self.now c.symbol.new.self c.in_ok-place.ensures.text in
    failed_on c.from_residual-in_err-value-in-Not.result c.from_residual-in_err-value-in-Not.ensures.1 (kept_then before c.in_err-value-in-Not.ensures.kept)
    (not_fails took (failed_kept before c.in_err-value-in-Not.ensures.says))

pub factor-returns-in_ok-value-in-Not : goal.factor-returns-in_ok-value-in-Not
factor-returns-in_ok-value-in-Not t c =
    let took = took_as (end_of c.args.self.now) c.in_ok-place.field-0.symbol c.in_ok-place.ensures.symbol c.ok_or.ensures.ok_part c.in_ok-symbol.was c.in-Not.is in
    let told = c.in_ok-value-in-Not.ensures in
    record {
      kept = kept_then (kept_lexed c.args.self.now c.symbol.new.self c.in_ok-place.ensures.text) told.kept;
      says = record {
        done = not_done took told.says.done (λ x h. c.negation.ensures ∙ ap negated h);
        ready = told.says.ready;
        shorter = omega (arith, told.says.shorter, ap length took);
      };
    }

pub factor-returns-in_err-value-in-Open : goal.factor-returns-in_err-value-in-Open
factor-returns-in_err-value-in-Open t c =
    let took = took_as (end_of c.args.self.now) c.in_ok-place.field-0.symbol c.in_ok-place.ensures.symbol c.ok_or.ensures.ok_part c.in_ok-symbol.was c.in-Open.is in
    let before = kept_lexed c.args.self.now c.symbol.new.self c.in_ok-place.ensures.text in
    failed_on c.from_residual-in_err-value-in-Open.result c.from_residual-in_err-value-in-Open.ensures.1 (kept_then before c.in_err-value-in-Open.ensures.kept)
    (open_fails took (failed_kept before c.in_err-value-in-Open.ensures.says))

pub factor-returns-in_ok-value-in-Open : goal.factor-returns-in_ok-value-in-Open
factor-returns-in_ok-value-in-Open t c =
    let took = took_as (end_of c.args.self.now) c.in_ok-place.field-0.symbol c.in_ok-place.ensures.symbol c.ok_or.ensures.ok_part c.in_ok-symbol.was c.in-Open.is in
    let told = c.in_ok-value-in-Open.ensures in
    let inside = kept_then (kept_lexed c.args.self.now c.symbol.new.self c.in_ok-place.ensures.text) told.kept in
    record {
      kept = kept_then inside c.close.ensures.kept;
      says = closes c.condition.new.self c.in_ok-value-in-Open.value c.close.result c.close.new.self took (ap length inside.text_is) told.says c.close.ensures.says;
    }

pub factor-returns-in_err-advance-in-Truth : goal.factor-returns-in_err-advance-in-Truth
factor-returns-in_err-advance-in-Truth t c =
    let took = took_as (end_of c.args.self.now) c.in_ok-place.field-0.symbol c.in_ok-place.ensures.symbol c.ok_or.ensures.ok_part c.in_ok-symbol.was c.in-Truth.is in
    failed_on c.from_residual-in_err-advance-in-Truth.result c.from_residual-in_err-advance-in-Truth.ensures.1 (kept_then (kept_lexed c.args.self.now c.symbol.new.self c.in_ok-place.ensures.text) c.in_err-advance-in-Truth.ensures.kept)
    (bad_follows (truth_done {means = λ (x : Tree). Unit {0}} took tt) c.in_err-advance-in-Truth.ensures.says)

pub factor-returns-in_ok-advance-in-Truth : goal.factor-returns-in_ok-advance-in-Truth
factor-returns-in_ok-advance-in-Truth t c =
    let took = took_as (end_of c.args.self.now) c.in_ok-place.field-0.symbol c.in_ok-place.ensures.symbol c.ok_or.ensures.ok_part c.in_ok-symbol.was c.in-Truth.is in
    let told = c.in_ok-advance-in-Truth.ensures in
    record {
      kept = kept_then (kept_lexed c.args.self.now c.symbol.new.self c.in_ok-place.ensures.text) told.kept;
      says = record {
        done = truth_done (took ∙ ap (λ ts. (c.in_ok-place.field-0.place, truth_word c.in-Truth.value) ∷ ts) (sym told.says.0)) c.constant.ensures;
        ready = told.says.1;
        shorter = omega (arith, told.says.2, ap length took);
      };
    }
