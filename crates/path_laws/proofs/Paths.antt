-- One path after another is a path.
use Rattle.std.proofs.Common.{ℕ, List}
use Rattle.parts.specs.declared.Link.{Link}
use Rattle.path_laws.specs.Paths.{Reaches, by_link, and_on}

pub reaches_on : {links : List Link} {a b c : ℕ} → Reaches links a b → Reaches links b c → Reaches links a c
reaches_on p (by_link s) = and_on p s
reaches_on p (and_on q s) = and_on (reaches_on p q) s
