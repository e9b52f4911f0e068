-- Of the loops in `counts_of_values` and `counts_of_pairs`: `held` is what the entries before the
-- rest hold. And what decreases from call to call.
use Rattle.std.proofs.Common.{length, ◌+◌, ◌*◌}
use Rattle.amqp_value_core.specs.Bytes.{slice_bytes}
use Rattle.amqp_in_place.specs.Lookups.{content}
use Rattle.amqp_in_place.proofs.Measuring.{ValuesSoFar, PairsSoFar}
use Rattle.amqp_in_place.proofs.measure.+measurer.Given as goal

-- a call has a shorter body than its caller, or as long a one and less to do
abbrev pub decreases-counts_of_value : goal.decreases-counts_of_value
decreases-counts_of_value l = 2 * length (content l.value) + 1

abbrev pub decreases-counts_of_values : goal.decreases-counts_of_values
decreases-counts_of_values l = 2 * length (slice_bytes l.body)

abbrev pub decreases-counts_of_pairs : goal.decreases-counts_of_pairs
decreases-counts_of_pairs l = 2 * length (slice_bytes l.body)

abbrev pub invariant-counts_of_values-values : goal.invariant-counts_of_values-values
invariant-counts_of_values-values l = ValuesSoFar (slice_bytes l.fn.body) l.held.values l.held.levels (slice_bytes l.rest)

abbrev pub decreases-counts_of_values-values : goal.decreases-counts_of_values-values
decreases-counts_of_values-values l = length (slice_bytes l.rest)

abbrev pub invariant-counts_of_pairs-pairs : goal.invariant-counts_of_pairs-pairs
invariant-counts_of_pairs-pairs l = PairsSoFar (slice_bytes l.fn.body) l.held.values l.held.levels (slice_bytes l.rest)

abbrev pub decreases-counts_of_pairs-pairs : goal.decreases-counts_of_pairs-pairs
decreases-counts_of_pairs-pairs l = length (slice_bytes l.rest)
