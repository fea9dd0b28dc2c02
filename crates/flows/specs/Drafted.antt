-- What a draft holds, and what there is without one.
use Rattle.std.specs.Prelude.{Some, None, Option}
use Rattle.layout.specs.Layout.{Parts}
use Rattle.layout.specs.Drafts.{parts_of, no_parts}
use Rattle.layout.specs.declared.draft.Draft.{Draft}

abbrev pub drafted : Option Draft → Parts
drafted (Some d) = parts_of d
drafted None = no_parts
