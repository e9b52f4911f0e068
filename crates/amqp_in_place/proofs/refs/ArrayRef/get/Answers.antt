-- `ArrayRef::get`: what `nth_value` finds is the value at the position: what it means, as it is
-- written, and a view of its encoding.
use Rattle.amqp_value_core.specs.Bytes.{slice_bytes}
use Rattle.amqp_in_place.specs.Refs.{array_body}
use Rattle.amqp_in_place.proofs.Lookups.{nth_means, nth_is_written, nth_is_view}
use Rattle.amqp_in_place.proofs.refs.ArrayRef.get.Goals as goal

pub returns-clause-value : goal.returns-clause-value
returns-clause-value c = nth_means (array_body c.args.self) (slice_bytes c.body.result) c.args.index c.nth_value.result c.body.ensures.body c.nth_value.ensures.found

pub returns-clause-written : goal.returns-clause-written
returns-clause-written c = nth_is_written (array_body c.args.self) (slice_bytes c.body.result) c.args.index c.nth_value.result c.body.ensures.body c.nth_value.ensures.found

pub returns-clause-view : goal.returns-clause-view
returns-clause-view c = nth_is_view (array_body c.args.self) (slice_bytes c.body.result) c.args.index c.nth_value.result c.body.ensures.body c.nth_value.ensures.found
