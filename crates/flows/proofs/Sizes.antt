-- How many activities, links and texts a flow has at the most.
use Rattle.std.proofs.Common.{◌≡◌, ◌+◌, ◌≤◌, length, Some, None, Option, arith}
use Rattle.layout.specs.declared.draft.Draft.{Draft}
use Rattle.layout.proofs.Elements as drafts
use Rattle.flows.specs.declared.flow.Flow.{Flow}
use Rattle.flows.specs.Drafted.{drafted}
use Rattle.flows.specs.Flows.{flow_parts}

activities_of : (d : Option Draft) → length (drafted d).activities ≤ 32
activities_of (Some d) = drafts.few_activities d
activities_of None = omega arith

links_of : (d : Option Draft) → length (drafted d).links ≤ 128
links_of (Some d) = drafts.few_links d
links_of None = omega arith

texts_of : (d : Option Draft) → length (drafted d).texts ≡ length (drafted d).links + length (drafted d).activities
texts_of (Some d) = drafts.as_many_texts d
texts_of None = omega arith

pub few_activities : (f : Flow) → length (flow_parts f).activities ≤ 32
few_activities f = activities_of f.draft

pub few_links : (f : Flow) → length (flow_parts f).links ≤ 128
few_links f = links_of f.draft

-- a text for each link and each activity
pub texts_long : (f : Flow) → length (flow_parts f).texts ≡ length (flow_parts f).links + length (flow_parts f).activities
texts_long f = texts_of f.draft
