-- A worked example of a retry's busy number.
use Rattle.std.specs.Prelude.{◌≡◌}
use Rattle.partners.specs.Layers.{retry_busy}

abbrev pub ThreeTriesOverSeven : Type 0
ThreeTriesOverSeven = retry_busy 3 7 ≡ 2
