-- Of the loops in `are_values` and `are_pairs`: what is before the rest was read as values, or as
-- pairs. And what decreases from call to call.
use Rattle.std.proofs.Common.{List, length, ◌+◌, ◌*◌}
use Rattle.amqp_value_core.specs.Values.{Tree, Entries}
use Rattle.amqp_value_core.specs.Bytes.{slice_bytes}
use Rattle.amq_protocol_types.proofs.ParsingLaws.{ArrayBodyRead, TableBodyRead}
use Rattle.amqp_in_place.proofs.HeadLemmas.{body_size}
use Rattle.amqp_in_place.proofs.read.+reader.Given as goal

-- a call has a shorter input than its caller, or as long a one and less to do
abbrev pub decreases-value_within : goal.decreases-value_within
decreases-value_within l = 3 * length (slice_bytes l.i)

abbrev pub decreases-has_valid_body : goal.decreases-has_valid_body
decreases-has_valid_body l = 3 * body_size l.head + 2

abbrev pub decreases-are_values : goal.decreases-are_values
decreases-are_values l = 3 * length (slice_bytes l.body) + 1

abbrev pub decreases-are_pairs : goal.decreases-are_pairs
decreases-are_pairs l = 3 * length (slice_bytes l.body) + 1

abbrev pub invariant-are_values-values : goal.invariant-are_values-values
invariant-are_values-values l = (xs : List Tree) × ArrayBodyRead l.fn.depth (slice_bytes l.fn.body) xs (slice_bytes l.rest)

abbrev pub decreases-are_values-values : goal.decreases-are_values-values
decreases-are_values-values l = length (slice_bytes l.rest)

abbrev pub invariant-are_pairs-pairs : goal.invariant-are_pairs-pairs
invariant-are_pairs-pairs l = (es : Entries) × TableBodyRead l.fn.depth (slice_bytes l.fn.body) es (slice_bytes l.rest)

abbrev pub decreases-are_pairs-pairs : goal.decreases-are_pairs-pairs
decreases-are_pairs-pairs l = length (slice_bytes l.rest)
