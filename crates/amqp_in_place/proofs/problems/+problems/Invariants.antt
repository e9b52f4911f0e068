-- Of the loops in `values` and `pairs`: the entries before `at` have no problem. And what decreases
-- from call to call.
use Rattle.std.proofs.Common.{length, ◌+◌, ◌-◌, ◌*◌}
use Rattle.amq_protocol_types.specs.parsing.Headers.{extent}
use Rattle.amqp_in_place.specs.Problems.{in_value, in_pair, pair_len, inside}
use Rattle.amqp_in_place.proofs.FirstProblems.{IsFreeOfProblems}
use Rattle.amqp_in_place.proofs.problems.+problems.Given as goal

-- a call has fewer bytes than its caller, or as many and less to do
abbrev pub decreases-value : goal.decreases-value
decreases-value l = 4 * length l.bytes.now

abbrev pub decreases-payload : goal.decreases-payload
decreases-payload l = 4 * length l.bytes.now + 2

abbrev pub decreases-inside : goal.decreases-inside
decreases-inside l = 4 * length l.bytes.now + 1

abbrev pub decreases-values : goal.decreases-values
decreases-values l = 4 * length l.body.now + 3

abbrev pub decreases-pairs : goal.decreases-pairs
decreases-pairs l = 4 * length l.body.now + 3

abbrev pub decreases-pair : goal.decreases-pair
decreases-pair l = 4 * length l.bytes.now + 1

abbrev pub invariant-values-values : goal.invariant-values-values
invariant-values-values l = IsFreeOfProblems (in_value l.fn.rules (inside l.fn.rules l.fn.depth)) extent l.fn.body l.at

abbrev pub decreases-values-values : goal.decreases-values-values
decreases-values-values l = length l.fn.body - l.at

abbrev pub invariant-pairs-pairs : goal.invariant-pairs-pairs
invariant-pairs-pairs l = IsFreeOfProblems (in_pair l.fn.rules (in_value l.fn.rules (inside l.fn.rules l.fn.depth))) pair_len l.fn.body l.at

abbrev pub decreases-pairs-pairs : goal.decreases-pairs-pairs
decreases-pairs-pairs l = length l.fn.body - l.at
