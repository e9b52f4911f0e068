-- The eight bytes that `parse_timestamp` reads are a `Timestamp`'s payload: a number below 2 ^ 64
-- is read back from its bytes.
use Rattle.std.proofs.Common.{refl, arith}
use Rattle.std.specs.Int.{w64}
use Rattle.amqp_value_core.specs.declared.types.amqp_type.AMQPType.TheVariants as amqp
use Rattle.amq_protocol_types.proofs.Payloads.{WidthReadsBack-64, number_found}
use Rattle.amq_protocol_types.proofs.parsing.scalars.parse_timestamp.Goals as goal

pub returns : goal.returns
returns g c =
    let n = c.in_ok-i.seconds in
    number_found amqp.Timestamp w64 (g.I.ParsableInput.bytes c.args.i) (g.I.ParsableInput.bytes c.in_ok-i.i) n refl (WidthReadsBack-64 n (omega arith)) c.in_ok-i.ensures
