use Rattle.std.proofs.Common.{◌≡◌, ℕ, ◌<◌, Bool, false, List, length, Some, None, Option, Bor, sym, ap, ◌∙◌, MatchOption, arith, rules}
use Rattle.std.specs.Option.{option_copied}
use Rattle.values.specs.declared.container.Container.{Container}
use Rattle.parts.specs.declared.Link.{Link}
use Rattle.path_laws.specs.Paths.{link_at}
use Rattle.flows.specs.declared.flow.Flow.{Flow}
use Rattle.flows.specs.Flows.{flow_parts}
use Rattle.flows.proofs.Ranked.{ends_kept}
use Rattle.flows.proofs.Sizes.{few_activities}
use Rattle.evaluation_laws.specs.declared.Outcome.{Outcome}
use Rattle.evaluation_laws.specs.declared.Outcome.TheVariants.{Skipped, Completed, Faulted}
use Rattle.evaluation_laws.specs.Plans.{Plan}
use Rattle.evaluation_laws.specs.Evaluations.{given_output, taken}
use Rattle.evaluation.specs.Flows.{flow_plan}
use Rattle.evaluation.proofs.Places.{outcome_read}
use Rattle.evaluation.proofs.outcomes.Outcomes.status.Goals as goal

-- the source of a link has a place
source_few : (f : Flow) (links : List Link) (l : ℕ) → links ≡ (flow_parts f).links → l < length (flow_parts f).links → (link_at links l).source < 32
source_few f links l e h = omega (arith, ap (λ ls. (link_at ls l).source) e, (ends_kept (flow_parts f) f.keeps_all l h).0, few_activities f)

-- what the output decides, where there is one
taken_by : (p : Plan) (l : ℕ) (o : Outcome) (b : Bool) (Given : Bor Container → Type 0) (r : Option (Bor Container)) → option_copied r ≡ given_output o → MatchOption r (b ≡ false) Given → ((x : Bor Container) → Given x → b ≡ p.transition l x.now) → b ≡ taken p l o
taken_by p l Skipped b Given (Some x) e m same = cc
taken_by p l Skipped b Given None e m same = m
taken_by p l (Completed c) b Given (Some x) e m same = let is : x.now ≡ c = cc in same x m ∙ ap (p.transition l) is
taken_by p l (Completed c) b Given None e m same = cc
taken_by p l (Faulted f) b Given (Some x) e m same = cc
taken_by p l (Faulted f) b Given None e m same = m

pub offset_bounds-places-source : goal.offset_bounds-places-source
offset_bounds-places-source c =
    let few = source_few c.args.self.now.flow.now c.links.result.now c.args.link c.links.ensures c.requires in
    omega (arith, c.from-source.ensures)

pub listed : goal.listed
listed c =
    let few = source_few c.args.self.now.flow.now c.links.result.now c.args.link c.links.ensures c.requires in
    omega (arith, c.from-source.ensures, c.args.self.now.all_places)

pub bounds-places-source : goal.bounds-places-source
bounds-places-source c =
    let few = source_few c.args.self.now.flow.now c.links.result.now c.args.link c.links.ensures c.requires in
    omega (arith, c.from-source.ensures)

pub returns : goal.returns
returns c =
    let f = c.args.self.now.flow.now in
    let places = c.args.self.now.places.now in
    let few = source_few f c.links.result.now c.args.link c.links.ensures c.requires in
    let source = c.from-source.ensures ∙ ap (λ ls. (link_at ls c.args.link).source) c.links.ensures in
    let is = outcome_read places c.from-source.result _ c.index-places-source.result source (omega (arith, c.from-source.ensures, c.args.self.now.all_places)) c.index-places-source.is in
    taken_by (flow_plan f) c.args.link _ _ _ _ c.output.ensures c.is_some_and.ensures (λ x h. search rules) ∙ ap (taken (flow_plan f) c.args.link) (sym c.index-places-source.is ∙ sym is)
