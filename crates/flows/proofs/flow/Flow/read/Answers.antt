use Rattle.std.proofs.Common.{◌≡◌, ℕ, List, Err, Result, refl, ap, ◌∙◌, arith}
use Rattle.std.specs.Result.{IsErrAnd}
use Rattle.std.proofs.lemmas.Result.{err_from_is_err_and}
use Rattle.layout.specs.Drafts.{parts_of}
use Rattle.layout.proofs.OneVerdict.{one_encoding}
use Rattle.layout.proofs.Elements.{few_activities}
use Rattle.path_laws.specs.Paths.{EndsBelow, NoCycle}
use Rattle.flows.specs.declared.flow.Flow.{Flow}
use Rattle.flows.specs.declared.refusal.DefinitionRefusal.{DefinitionRefusal}
use Rattle.layout.specs.Verdicts.{OneEncoding}
use Rattle.flows.specs.Verdicts.{Judged, refused, Defines, OneVerdict}
use Rattle.flows.specs.Flows.{DefinitionRead, ReadAsWritten}
use Rattle.flows.proofs.OneVerdict.{one_verdict, defines_one, none_defined}
use Rattle.flows.proofs.Ranked.{ends_kept, no_cycle}
use Rattle.flows.proofs.flow.Flow.read.Goals as goal

-- what is refused leaves the flow as it was
left : (bs : List ℕ) (flow : Flow) (r : Result (Unit {0}) DefinitionRefusal) (e : DefinitionRefusal) → IsErrAnd r (λ y. y ≡ e) → Judged bs (refused e) → record { verdict : DefinitionRead bs flow r flow; read_as_written : ReadAsWritten bs r flow; one_verdict : OneVerdict bs; one_encoding : OneEncoding }
left bs flow r e err judged =
    let p = err_from_is_err_and r err in
    let is = p.1 ∙ ap Err p.2 in
    record { verdict = rw is (judged, refl); read_as_written = none_defined bs flow r e is judged; one_verdict = one_verdict bs; one_encoding = one_encoding }

pub returns-in_err-draft : goal.returns-in_err-draft
returns-in_err-draft c = left c.args.bytes.now c.args.self.now c.from_residual.result _ c.from_residual.ensures.1 c.in_err-draft.ensures.verdict

pub returns-in_err-check : goal.returns-in_err-check
returns-in_err-check c =
    let layout = c.in_ok-draft.ensures.verdict in
    left c.args.bytes.now c.args.self.now c.from_residual-in_err-check.result _ c.from_residual-in_err-check.ensures.1
    (record { parts = parts_of c.in_ok-draft.draft; limits = layout.0; written = layout.1; first = c.in_err-check.ensures.verdict })

pub unwrap-ranking-requires : goal.unwrap-ranking-requires
unwrap-ranking-requires c =
    let d = c.in_ok-draft.draft in
    let p = parts_of d in
    let keeps = c.in_ok-check.ensures.verdict in
    let ends : EndsBelow c.links.result.now c.activity_count.result = rw (c.links.ensures, c.activity_count.ensures) (ends_kept p keeps) in
    let none : NoCycle c.links.result.now c.activity_count.result = rw (c.links.ensures, c.activity_count.ensures) (no_cycle p keeps) in
    c.rank.ensures.some (omega (arith, c.activity_count.ensures, few_activities d)) ends none

pub returns : goal.returns
returns c =
    let bs = c.args.bytes.now in
    let p = parts_of c.in_ok-draft.draft in
    let layout = c.in_ok-draft.ensures.verdict in
    let defines : Defines bs p = record { limits = layout.0; written = layout.1; rules = c.in_ok-check.ensures.verdict } in
    record { verdict = defines; read_as_written = λ q other. defines_one bs p q defines other; one_verdict = one_verdict bs; one_encoding = one_encoding }
