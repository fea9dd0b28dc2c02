use Rattle.std.proofs.Common.{◌≡◌, length, arith}
use Rattle.std.proofs.lemmas.Result.{err_from_is_err_and}
use Rattle.lists.specs.Lists.{items as elements}
use Rattle.layout.specs.Reading.{at_count, at_element}
use Rattle.layout.proofs.sections.section.Goals as goal

pub returns-in_err-n : goal.returns-in_err-n
returns-in_err-n g c =
    let p = err_from_is_err_and c.from_residual.result c.from_residual.ensures.1 in
    rw (p.1, p.2) (at_count c.in_err-n.ensures)

pub returns-in_err-element : goal.returns-in_err-element
returns-in_err-element g c =
    let p = err_from_is_err_and c.from_residual-in_err-element.result c.from_residual-in_err-element.ensures.1 in
    rw (p.1, p.2) (at_element c.in_ok-n.n c.count.new.self c.in_ok-n.ensures (record {
      elements = elements c.loop.list;
      fewer = omega arith;
      there = c.loop.reader;
      filled = c.loop.invariant.0;
      stop = c.in_err-element.ensures;
    }))

pub returns : goal.returns
returns g c =
    let long : length (elements c.loop.list) ≡ c.in_ok-n.n = omega arith in
    record { there = c.count.new.self; count_is = rw long c.in_ok-n.ensures; filled = c.loop.invariant.0 }
