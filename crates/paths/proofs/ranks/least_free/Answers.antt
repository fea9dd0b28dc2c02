use Rattle.std.proofs.Common.{◌≡◌, refl, ◌∙◌, arith, rules}
use Rattle.std.proofs.lemmas.Bool.Decides.{not_from_Decides}
use Rattle.std.specs.Option.{option_map}
use Rattle.std.specs.Result.{result_ok}
use Rattle.pools.specs.Contents.{contents}
use Rattle.paths.proofs.Waits.{waits_skip, waits_push, waits_taken, has_room}
use Rattle.paths.proofs.ranks.least_free.Goals as goal
use Rattle.paths.proofs.ranks.least_free.Goals.{then-is_free, else-is_free}

pub loop-a-preserved : goal.loop-a-preserved
loop-a-preserved c =
    let links = c.args.links.now in
    let ranked = c.args.ranked.now.marks in
    let p = c.loop-a.free in
    let a = c.loop-a.a in
    let full = c.loop-a.invariant.0 in
    let w = c.loop-a.invariant.1 in
    elim c.if-is_free.branch [
      | then-is_free u ↦
          let more = has_room p (record { 0 = a }) u.add.new.self u.add.result u.add.ensures (omega (arith, w.few, full)) in
          simp (u.free-is, more.contents_is) (more.places_are.room_is ∙ full, waits_push links ranked (contents p) a (record { 0 = a }) refl (c.is_free.ensures.0 u.if-is_free.true) w)
      | else-is_free u ↦ simp u.free-is (full, waits_skip links ranked (contents p) a (not_from_Decides c.is_free.result c.is_free.ensures u.if-is_free.false) w)
    ]

pub returns : goal.returns
returns c =
    let all : c.loop-a.a ≡ c.args.count = omega arith in
    let taken : c.map.result ≡ option_map (λ x. x.0) (result_ok c.take_least.result) = search rules in
    rw taken (waits_taken c.args.links.now c.args.ranked.now.marks c.loop-a.free c.take_least.new.self c.take_least.result c.args.count c.take_least.ensures (rw all at c.loop-a.invariant.1))
