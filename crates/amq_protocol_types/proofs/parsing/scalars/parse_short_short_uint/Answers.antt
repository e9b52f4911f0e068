-- The byte that `parse_short_short_uint` reads is a `ShortShortUInt`'s payload: a number below 256
-- is read back from its byte.
use Rattle.std.proofs.Common.{refl, arith, rules}
use Rattle.std.specs.Int.{w8}
use Rattle.amqp_value_core.specs.declared.types.amqp_type.AMQPType.TheVariants as amqp
use Rattle.amq_protocol_types.specs.parsing.PayloadResults.{IsNumberRead}
use Rattle.amq_protocol_types.proofs.Payloads.{WidthReadsBack-8, number_found}
use Rattle.amq_protocol_types.proofs.parsing.scalars.parse_short_short_uint.Goals as goal

pub returns-clause-payload : goal.returns-clause-payload
returns-clause-payload g c =
    let s = g.I.ParsableInput.bytes c.args.i in
    let rest = g.I.ParsableInput.bytes c.take_from.result in
    let n = c.byte_at.result in
    let read : IsNumberRead w8 s n rest = search rules in
    number_found amqp.ShortShortUInt w8 s rest n refl (WidthReadsBack-8 n (omega arith)) read
