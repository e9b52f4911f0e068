-- Of the loop in `keys_rise`: pairs are left, and the keys of all pairs ascend exactly if those
-- that are left do, after `previous`.
use Rattle.std.proofs.Common.{length}
use Rattle.amqp_value_core.specs.Bytes.{slice_bytes}
use Rattle.amqp_in_place.specs.Bodies.{HasPairs}
use Rattle.amqp_in_place.proofs.RepeatedKeys.{KeysAscend}
use Rattle.amqp_in_place.proofs.repeated.keys_rise.Given as goal

abbrev pub invariant-pairs : goal.invariant-pairs
invariant-pairs l = record {
  pairs : ∥ HasPairs (slice_bytes l.rest) ∥₁;
  rises : KeysAscend (slice_bytes l.fn.pairs) (slice_bytes l.rest) l.previous;
}

abbrev pub decreases-pairs : goal.decreases-pairs
decreases-pairs l = length (slice_bytes l.rest)
