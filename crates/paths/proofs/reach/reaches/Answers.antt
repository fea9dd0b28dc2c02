use Rattle.path_laws.proofs.Spread.{none_sound}
use Rattle.paths.proofs.reach.reaches.Goals as goal

pub loop-init : goal.loop-init
loop-init c = rw c.none-reached.ensures (none_sound c.args.links.now c.args.from 256)
