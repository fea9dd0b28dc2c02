use Rattle.std.proofs.Common.{◌≡◌, length}
use Rattle.lists.specs.Lists.{items as elements}
use Rattle.layout.specs.Reading.{Filled}
use Rattle.layout.proofs.sections.section.Given as goal

abbrev pub invariant-loop : goal.invariant-loop
invariant-loop g l =
    Filled g.E.Element.items g.E.Element.good l.initial.reader l.reader (elements l.list)
    × (length (elements l.list) ≡ l.counter)
