-- The two bytes that `parse_short_uint` reads are a `ShortUInt`'s payload: a number below 2 ^ 16 is
-- read back from its bytes.
use Rattle.std.proofs.Common.{refl, arith, rules}
use Rattle.std.specs.Int.{w16}
use Rattle.amqp_value_core.specs.declared.types.amqp_type.AMQPType.TheVariants as amqp
use Rattle.amq_protocol_types.specs.parsing.PayloadResults.{IsNumberRead}
use Rattle.amq_protocol_types.proofs.Payloads.{WidthReadsBack-16, number_found}
use Rattle.amq_protocol_types.proofs.parsing.scalars.parse_short_uint.Goals as goal

pub returns-clause-payload : goal.returns-clause-payload
returns-clause-payload g c =
    let s = g.I.ParsableInput.bytes c.args.i in
    let rest = g.I.ParsableInput.bytes c.take_from.result in
    let n = c.from_be_bytes-n.result in
    let read : IsNumberRead w16 s n rest = search rules in
    number_found amqp.ShortUInt w16 s rest n refl (WidthReadsBack-16 n (omega arith)) read
