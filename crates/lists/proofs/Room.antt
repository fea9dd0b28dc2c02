-- How many elements a bounded list has at the most.
use Rattle.std.proofs.Common.{ℕ, ◌≤◌, length, arith}
use Rattle.std.proofs.lemmas.List.{length-take-le}
use Rattle.lists.specs.declared.list.BoundedList.{BoundedList}
use Rattle.lists.specs.Lists.{items}

pub few_items : {X : Type 0} {N : ℕ} (l : BoundedList X N) → length (items l) ≤ N
few_items l = omega (arith, length-take-le l.count l.places (omega (arith, l.few, l.all_places)), l.few)
