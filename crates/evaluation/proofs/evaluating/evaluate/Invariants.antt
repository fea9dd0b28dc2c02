use Rattle.std.proofs.Common.{◌≡◌, ◌≤◌, length}
use Rattle.evaluation.specs.Flows.{flow_plan}
use Rattle.evaluation.proofs.Treating.{Treated}
use Rattle.evaluation.proofs.evaluating.evaluate.Given as goal

abbrev pub invariant-loop-activity : goal.invariant-loop-activity
invariant-loop-activity g l =
    let p = g.P.Partner in
    record {
      long : length l.places ≡ 32;
      treated : Treated (flow_plan l.flow) l.case (p.answers l.initial.partner) l.places l.activity-index;
      answers : p.answers l.partner ≡ p.answers l.initial.partner;
      busy : p.busy l.partner ≤ p.busy l.initial.partner;
    }
