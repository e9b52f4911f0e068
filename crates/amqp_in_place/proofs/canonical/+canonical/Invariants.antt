-- Of the loops in `are_canonical_values` and `are_canonical_pairs`: the body is canonical exactly
-- if the rest of it is. And what decreases from call to call.
use Rattle.std.proofs.Common.{None, length, ◌+◌, ◌*◌, ◌≤◌}
use Rattle.amqp_value_core.specs.Bytes.{slice_bytes}
use Rattle.amqp_in_place.specs.Canonicals.{CanonValues, CanonEntries}
use Rattle.amqp_in_place.proofs.HeadLemmas.{body_size}
use Rattle.amqp_in_place.proofs.canonical.+canonical.Given as goal

-- a call has a shorter input than its caller, or as long a one and less to do
abbrev pub decreases-after_canonical : goal.decreases-after_canonical
decreases-after_canonical l = 3 * length (slice_bytes l.i)

abbrev pub decreases-has_canonical_body : goal.decreases-has_canonical_body
decreases-has_canonical_body l = 3 * body_size l.head + 2

abbrev pub decreases-are_canonical_values : goal.decreases-are_canonical_values
decreases-are_canonical_values l = 3 * length (slice_bytes l.body) + 1

abbrev pub decreases-are_canonical_pairs : goal.decreases-are_canonical_pairs
decreases-are_canonical_pairs l = 3 * length (slice_bytes l.body) + 1

-- the body is as asked for exactly when what is left of it is, and that is no longer
abbrev pub invariant-are_canonical_values-values : goal.invariant-are_canonical_values-values
invariant-are_canonical_values-values l =
    (CanonValues l.fn.depth (slice_bytes l.fn.body) → CanonValues l.fn.depth (slice_bytes l.rest))
    × (CanonValues l.fn.depth (slice_bytes l.rest) → CanonValues l.fn.depth (slice_bytes l.fn.body))
    × (length (slice_bytes l.rest) ≤ length (slice_bytes l.fn.body))

abbrev pub decreases-are_canonical_values-values : goal.decreases-are_canonical_values-values
decreases-are_canonical_values-values l = length (slice_bytes l.rest)

abbrev pub invariant-are_canonical_pairs-pairs : goal.invariant-are_canonical_pairs-pairs
invariant-are_canonical_pairs-pairs l =
    (CanonEntries l.fn.depth None (slice_bytes l.fn.body) → CanonEntries l.fn.depth l.previous (slice_bytes l.rest))
    × (CanonEntries l.fn.depth l.previous (slice_bytes l.rest) → CanonEntries l.fn.depth None (slice_bytes l.fn.body))
    × (length (slice_bytes l.rest) ≤ length (slice_bytes l.fn.body))

abbrev pub decreases-are_canonical_pairs-pairs : goal.decreases-are_canonical_pairs-pairs
decreases-are_canonical_pairs-pairs l = length (slice_bytes l.rest)
