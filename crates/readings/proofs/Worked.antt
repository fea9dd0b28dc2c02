-- What the contract of the crate states.
use Rattle.std.proofs.Common.{refl}
use Rattle.tokens.specs.Classes.{class}
use Rattle.readings.specs.Theorems.{AndBeforeOr, ReadingsWorkedOut}
use Rattle.readings.proofs.Forward.{read_worked_out}
use Rattle.readings.proofs.Backward.{worked_out_reads}
use Rattle.readings.proofs.Values.{faulty_unread, same_value, same_holding, same_statuses, holding_is, holds_weighed, join_holding_is, only_links}

and_before_or : AndBeforeOr
unfolding class
and_before_or = refl

pub readings_worked_out : ReadingsWorkedOut
readings_worked_out = record {
  read_worked_out = read_worked_out;
  worked_out_reads = worked_out_reads;
  faulty_unread = faulty_unread;
  holding_is = holding_is;
  holds_weighed = holds_weighed;
  same_value = same_value;
  same_holding = same_holding;
  same_statuses = same_statuses;
  join_holding_is = join_holding_is;
  only_links = only_links;
  and_before_or = and_before_or;
}
