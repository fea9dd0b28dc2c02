-- How many elements a draft has.
use Rattle.std.proofs.Common.{◌≡◌, ◌+◌, ◌≤◌, length, ◌∙◌}
use Rattle.std.proofs.lemmas.List.{length-map}
use Rattle.lists.specs.Lists.{items}
use Rattle.lists.proofs.Room.{few_items}
use Rattle.conditions.specs.Texts.{text_bytes}
use Rattle.layout.specs.declared.draft.Draft.{Draft}
use Rattle.layout.specs.Drafts.{parts_of}

pub few_activities : (d : Draft) → length (parts_of d).activities ≤ 32
few_activities d = few_items d.activities

pub few_links : (d : Draft) → length (parts_of d).links ≤ 128
few_links d = few_items d.links

pub few_connectors : (d : Draft) → length (parts_of d).connectors ≤ 256
few_connectors d = few_items d.connectors

pub as_many_texts : (d : Draft) → length (parts_of d).texts ≡ length (parts_of d).links + length (parts_of d).activities
as_many_texts d = length-map (items d.texts) text_bytes ∙ d.as_many_texts
