-- A text as a whole.
use Rattle.std.proofs.Common.{◌≡◌, ℕ, Bool, List, map, length, Ok, Err, Result, ap, subst}
use mathlib.Core.Path.{subst⁻¹}
use Rattle.grammar.specs.Grammar.{Kind, Test, condition}
use Rattle.grammar.specs.Parsing.{Done}
use Rattle.grammar.proofs.OneTree as trees
use Rattle.grammar.proofs.Whole.{failed_fault, left_over_fault, one_fault}
use Rattle.tokens.specs.declared.fault.Fault.{Fault}
use Rattle.tokens.specs.Following.{to_come, symbols_of, told}
use Rattle.tokens.specs.Tokens.{tokens_from}
use Rattle.conditions.specs.declared.ground.Ground.{Ground}
use Rattle.conditions.specs.declared.parser.Parser.{Parser}
use Rattle.conditions.specs.Truths.{Truth}
use Rattle.conditions.specs.Values.{value, kind_of, tests_of}
use Rattle.conditions.specs.Texts.{FaultPlace, Weighed, Checked, OneReading, OneVerdict}
use Rattle.conditions.specs.Steps.{Parsed, ParsedFrom, end_of, Ended, Begun}
use Rattle.conditions.proofs.Reading.{ahead_is}

-- what a new parser parses is the whole text
begun_parsed : {text : List ℕ} {ground : Ground} {p : Parser} (r : Result Truth Fault) (q : Parser) → Begun text ground p → Parsed condition p r q → ParsedFrom (kind_of ground) (tests_of ground) condition (length text) (symbols_of text) r q
begun_parsed {text} {ground} {p} r q b h =
    subst (λ ts. ParsedFrom (kind_of ground) (tests_of ground) condition (length text) ts r q) (λ i. map told (tokens_from (b.text_is i) (b.place_is i)))
    (subst (λ n. ParsedFrom (kind_of ground) (tests_of ground) condition n (to_come p.lexer) r q) (ap length b.text_is)
    (subst (λ (x : Ground). ParsedFrom (kind_of x) (tests_of x) condition (end_of p) (to_come p.lexer) r q) b.ground_is h.says))

pub stopped : {text : List ℕ} {ground : Ground} {p : Parser} (f : Fault) (q : Parser) → Begun text ground p → Parsed condition p (Err f) q → FaultPlace (kind_of ground) text f.place
stopped f q b h = failed_fault (begun_parsed (Err f) q b h)

pub more_follows : {text : List ℕ} {ground : Ground} {p : Parser} (v : Truth) (f : Fault) (q : Parser) → Begun text ground p → Parsed condition p (Ok v) q → Ended q (Err f) → FaultPlace (kind_of ground) text f.place
more_follows {text} {ground} v f q b h e =
    let d = begun_parsed (Ok v) q b h in
    subst⁻¹ (FaultPlace (kind_of ground) text) e.2 (left_over_fault (subst (λ ts. Done (kind_of ground) condition (λ t. v ≡ value (tests_of ground) t) (symbols_of text) ts) (ahead_is q e.0 e.1) d.done))

pub one_reading : (text : List ℕ) → OneReading text
one_reading text k t u p q = trees.one_reading k _ t u p q

pub one_verdict : (text : List ℕ) → OneVerdict text
one_verdict text = record {
  one_fault = λ k p q a b. one_fault.same k _ _ p q a b;
  not_both = λ k t p r f. one_fault.none k _ _ t p r f;
}

-- a text that is weighed is checked
pub checked : {k : Kind} {tests : Test → Truth} (text : List ℕ) (r : Result Bool Fault) (b : Bool) → Weighed k tests text (Ok b) → Checked k text (Ok tt)
checked text r b h = (h.tree, h.reads)
