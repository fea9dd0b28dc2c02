-- Where all links are checked, their ends are activities.
use Rattle.std.proofs.Common.{length, inl, ⊎_elim, arith}
use Rattle.std.proofs.lemmas.Bool.{cases_lt}
use Rattle.layout.specs.Layout.{Parts}
use Rattle.path_laws.specs.Paths.{link_at, EndsBelow}
use Rattle.rules.specs.declared.refusal.RuleRefusal.TheVariants.{NoEnd, Cycle}
use Rattle.rules.specs.Rules.{Clear}

pub ends_below : (p : Parts) → Clear p (Cycle 0) → EndsBelow p.links (length p.activities)
ends_below p clear k h =
    let n = length p.activities in
    let s = (link_at p.links k).source in
    let t = (link_at p.links k).target in
    ⊎_elim
    (λ l. ⊎_elim (λ m. (l, m)) (λ ge. absurd (clear (NoEnd k) (inl (omega arith)) (h, λ e. omega (arith, e.1)))) (cases_lt t n))
    (λ ge. absurd (clear (NoEnd k) (inl (omega arith)) (h, λ e. omega (arith, e.0))))
    (cases_lt s n)
