-- Of the loops in `in_values` and `in_pairs`: the first fault is not before `at`, and for repeated
-- keys `seen` has those before it. And what decreases from call to call.
use Rattle.std.proofs.Common.{length, ◌+◌, ◌-◌, ◌*◌}
use Rattle.amqp_in_place.specs.RabbitmqWarnings.{fault_in_value, fault_inside}
use Rattle.amqp_in_place.proofs.KeyFaults.{ValuesPassed, PairsPassed}
use Rattle.amqp_in_place.proofs.rabbitmq.warning.+faults.Given as goal

-- a call has fewer bytes than its caller, or as many and less to do
abbrev pub decreases-in_value : goal.decreases-in_value
decreases-in_value l = 4 * length l.bytes.now

abbrev pub decreases-inside : goal.decreases-inside
decreases-inside l = 4 * length l.payload.now + 2

abbrev pub decreases-in_values : goal.decreases-in_values
decreases-in_values l = 4 * length l.body.now + 1

abbrev pub decreases-in_pairs : goal.decreases-in_pairs
decreases-in_pairs l = 4 * length l.body.now + 1

abbrev pub invariant-in_values-values : goal.invariant-in_values-values
invariant-in_values-values l = ValuesPassed (fault_in_value (fault_inside l.fn.fault l.fn.depth)) l.fn.body l.at

abbrev pub decreases-in_values-values : goal.decreases-in_values-values
decreases-in_values-values l = length l.fn.body - l.at

abbrev pub invariant-in_pairs-pairs : goal.invariant-in_pairs-pairs
invariant-in_pairs-pairs l = PairsPassed l.fn.fault (fault_in_value (fault_inside l.fn.fault l.fn.depth)) l.fn.body l.at l.seen

abbrev pub decreases-in_pairs-pairs : goal.decreases-in_pairs-pairs
decreases-in_pairs-pairs l = length l.fn.body - l.at
