-- Of the loop in `TableRef::repeated_key`: pairs are left, and `seen` has the keys of those before
-- them, each of which occurs once there.
use Rattle.std.proofs.Common.{length}
use Rattle.amqp_value_core.specs.Bytes.{slice_bytes}
use Rattle.amqp_in_place.specs.Bodies.{HasPairs}
use Rattle.amqp_in_place.specs.Refs.{table_body}
use Rattle.amqp_in_place.proofs.RepeatedKeys.{KeysAreSeen}
use Rattle.amqp_in_place.proofs.refs.TableRef.repeated_key.Given as goal

abbrev pub invariant-pairs : goal.invariant-pairs
invariant-pairs l = record {
  pairs : ∥ HasPairs (slice_bytes l.rest) ∥₁;
  seen : KeysAreSeen (table_body l.fn.self) (slice_bytes l.rest) l.seen;
}

abbrev pub decreases-pairs : goal.decreases-pairs
decreases-pairs l = length (slice_bytes l.rest)
