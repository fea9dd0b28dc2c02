-- Whether an earlier link has the source and target of a link.
use Rattle.std.proofs.Common.{◌≡◌, ◌<◌, ℕ, eqb, ◌&&◌, true, List, length, take, refl, arith}
use Rattle.std.specs.List.{list_any}
use Rattle.std.proofs.lemmas.List.{get_or-take, length-take-le}
use Rattle.std.proofs.lemmas.Bool.{eq-eqb}
use Rattle.std.proofs.lemmas.List.Folds.{list_any_at}
use Rattle.parts.specs.declared.Link.{Link}
use Rattle.path_laws.specs.Paths.{link_at}
use Rattle.rules.specs.Rules.{LinkedBefore}

pub linked_in : (links : List Link) (i : ℕ) → i < length links → LinkedBefore links i → list_any (λ (l : Link). eqb l.source (link_at links i).source && eqb l.target (link_at links i).target) (take i links) ≡ true
linked_in links i h (k, before, source, target) =
    let none : Link = record { source = 0; target = 0 } in
    let at = get_or-take i links k none before in
    list_any_at (λ (l : Link). eqb l.source (link_at links i).source && eqb l.target (link_at links i).target) (take i links) k none (omega (arith, length-take-le i links (omega arith), before))
    (rw (at, eq-eqb _ _ source, eq-eqb _ _ target) refl)
