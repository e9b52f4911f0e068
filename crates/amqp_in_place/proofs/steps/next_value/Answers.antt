-- `next_value`: the first of some values is an encoding, so its head is read and means it; what is
-- after it is values.
use Rattle.std.proofs.Common.{arith}
use Rattle.amqp_value_core.specs.Bytes.{slice_bytes}
use Rattle.amqp_in_place.proofs.Stepping.{read_there, meant_there, value_at_start, value_given, values_after}
use Rattle.amqp_in_place.proofs.Places.{inside}
use Rattle.amqp_in_place.proofs.steps.next_value.Goals as goal

pub unreachable-requires : goal.unreachable-requires
unreachable-requires c = read_there (slice_bytes c.args.bytes) c.in_default.field-0 (value_at_start (slice_bytes c.args.bytes) (omega arith) c.requires) c.in_default.ensures

pub value_of-requires : goal.value_of-requires
value_of-requires c = meant_there (slice_bytes c.args.bytes) c.in-Ok.head (slice_bytes c.in-Ok.rest) c.in-Ok.ensures (value_at_start (slice_bytes c.args.bytes) (omega arith) c.requires)

pub returns-clause-value : goal.returns-clause-value
returns-clause-value c = λ vs p.
    value_given (slice_bytes c.args.bytes) c.in-Ok.head vs (c.value_of.result, c.in-Ok.rest) (omega arith) c.in-Ok.ensures c.value_of.ensures.means p

pub returns-clause-more : goal.returns-clause-more
returns-clause-more c = values_after (slice_bytes c.args.bytes) c.in-Ok.head (slice_bytes c.in-Ok.rest) (omega arith) c.in-Ok.ensures c.requires

pub returns-clause-inside : goal.returns-clause-inside
returns-clause-inside c = inside (slice_bytes c.args.bytes) c.in-Ok.head c.value_of.result (slice_bytes c.in-Ok.rest) c.in-Ok.ensures c.value_of.ensures.refers
