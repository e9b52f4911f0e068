-- Of the loop in `nth_value`: values are left, and the one that is asked for is at position `left`
-- among them.
use Rattle.std.proofs.Common.{length}
use Rattle.amqp_value_core.specs.Bytes.{slice_bytes}
use Rattle.amqp_in_place.specs.Bodies.{HasValues}
use Rattle.amqp_in_place.specs.InPlaceResults.{IsLeft}
use Rattle.amqp_in_place.proofs.Lookups.{IsAmongLeft}
use Rattle.amqp_in_place.proofs.arrays.nth_value.Given as goal

abbrev pub invariant-values : goal.invariant-values
invariant-values l = record {
  values : ∥ HasValues (slice_bytes l.rest) ∥₁;
  among : IsAmongLeft l.fn.index (slice_bytes l.fn.values) (slice_bytes l.rest) l.left;
  left : IsLeft (slice_bytes l.fn.values) (slice_bytes l.rest);
}

abbrev pub decreases-values : goal.decreases-values
decreases-values l = length (slice_bytes l.rest)
