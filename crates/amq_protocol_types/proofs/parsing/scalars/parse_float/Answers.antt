-- The four bytes that `parse_float` reads are a `Float`'s payload: `from_bits` keeps their bits.
use Rattle.std.proofs.Common.{refl, arith}
use Rattle.std.specs.Int.{w32}
use Rattle.amqp_value_core.specs.declared.types.amqp_type.AMQPType.TheVariants as amqp
use Rattle.amq_protocol_types.proofs.Payloads.{WidthReadsBack-32, number_found}
use Rattle.amq_protocol_types.proofs.parsing.scalars.parse_float.Goals as goal

pub returns : goal.returns
returns g c =
    let n = c.in_ok-i.bits in
    rw c.from_bits.ensures
    (number_found amqp.Float w32 (g.I.ParsableInput.bytes c.args.i) (g.I.ParsableInput.bytes c.in_ok-i.i) n refl (WidthReadsBack-32 n (omega arith)) c.in_ok-i.ensures.number)
