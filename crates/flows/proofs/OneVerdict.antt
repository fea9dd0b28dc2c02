-- No bytes have two verdicts.
use Rattle.std.proofs.Common.{◌≡◌, ℕ, List, Err, Result, sym, ap, ◌∙◌, subst}
use Rattle.layout.specs.Layout.{Parts, WithinLimits, encode}
use Rattle.layout.specs.Verdicts.{Refused}
use Rattle.layout.specs.Verdicts as layout
use Rattle.layout.specs.declared.refusal.LayoutRefusal.{LayoutRefusal}
use Rattle.layout.proofs.OneVerdict as laid
use Rattle.rules.specs.declared.refusal.RuleRefusal.{RuleRefusal}
use Rattle.rules.specs.Rules.{FirstBroken}
use Rattle.rules.proofs.Turns.{one_rule}
use Rattle.flows.specs.declared.refusal.DefinitionRefusal.{DefinitionRefusal}
use Rattle.flows.specs.declared.refusal.DefinitionRefusal.TheVariants.{Layout, Rule}
use Rattle.flows.specs.declared.flow.Flow.{Flow}
use Rattle.flows.specs.Verdicts.{accepted, refused, Judged, Defines, Breaks, OneVerdict}
use Rattle.flows.specs.Flows.{ReadAsWritten}

not_refused : (bs : List ℕ) (p : Parts) (e : LayoutRefusal) → WithinLimits p → bs ≡ encode p → Refused bs e → ⊥
not_refused bs p e limits written r = cc (laid.one_verdict bs (layout.accepted p) (layout.refused e) (limits, written) r)

keeps_or_breaks : (bs : List ℕ) (p : Parts) (e : RuleRefusal) → Judged bs (accepted p) → Breaks bs e → ⊥
keeps_or_breaks bs p e d b =
    let same = laid.one_encoding b.parts p b.limits d.limits (sym b.written ∙ d.written) in
    (one_rule p).not_both e d.rules (subst (λ q. FirstBroken q e) same b.first)

breaks_one : (bs : List ℕ) (d e : RuleRefusal) → Breaks bs d → Breaks bs e → d ≡ e
breaks_one bs d e b c =
    let same = laid.one_encoding b.parts c.parts b.limits c.limits (sym b.written ∙ c.written) in
    (one_rule c.parts).one_first d e (subst (λ q. FirstBroken q d) same b.first) c.first

-- bytes define one list of parts
pub defines_one : (bs : List ℕ) (p q : Parts) → Defines bs p → Defines bs q → p ≡ q
defines_one bs p q d e = laid.one_encoding p q d.limits e.limits (sym d.written ∙ e.written)

pub one_verdict : (bs : List ℕ) → OneVerdict bs
one_verdict bs (accepted p) (accepted q) j k = ap accepted (defines_one bs p q j k)
one_verdict bs (accepted p) (refused (Layout e)) j k = absurd (not_refused bs p e j.limits j.written k)
one_verdict bs (accepted p) (refused (Rule e)) j k = absurd (keeps_or_breaks bs p e j k)
one_verdict bs (refused (Layout d)) (accepted q) j k = absurd (not_refused bs q d k.limits k.written j)
one_verdict bs (refused (Layout d)) (refused (Layout e)) j k = cc (laid.one_verdict bs (layout.refused d) (layout.refused e) j k)
one_verdict bs (refused (Layout d)) (refused (Rule e)) j k = absurd (not_refused bs k.parts d k.limits k.written j)
one_verdict bs (refused (Rule d)) (accepted q) j k = absurd (keeps_or_breaks bs q d k j)
one_verdict bs (refused (Rule d)) (refused (Layout e)) j k = absurd (not_refused bs j.parts e j.limits j.written k)
one_verdict bs (refused (Rule d)) (refused (Rule e)) j k = ap (λ x. refused (Rule x)) (breaks_one bs d e j k)

-- what is refused defines nothing
pub none_defined : (bs : List ℕ) (before : Flow) (r : Result (Unit {0}) DefinitionRefusal) (e : DefinitionRefusal) → r ≡ Err e → Judged bs (refused e) → ReadAsWritten bs r before
none_defined bs before r e is judged p d = cc (one_verdict bs (refused e) (accepted p) judged d)
