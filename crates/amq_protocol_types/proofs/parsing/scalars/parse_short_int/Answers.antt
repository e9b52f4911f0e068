-- The two bytes that `parse_short_int` reads are a `ShortInt`'s payload: the cast to a signed
-- number keeps their bits.
use Rattle.std.proofs.Common.{refl, arith}
use Rattle.std.specs.Int.{w16}
use Rattle.std.proofs.lemmas.Int.{of_z-to_z}
use Rattle.amqp_value_core.specs.declared.types.amqp_type.AMQPType.TheVariants as amqp
use Rattle.amq_protocol_types.proofs.Payloads.{WidthReadsBack-16, signed_found}
use Rattle.amq_protocol_types.proofs.parsing.scalars.parse_short_int.Goals as goal

pub returns : goal.returns
returns g c =
    let n = c.in_ok-i.n in
    signed_found amqp.ShortInt w16 (g.I.ParsableInput.bytes c.args.i) (g.I.ParsableInput.bytes c.in_ok-i.i) n c.cast_signed.result refl
    (WidthReadsBack-16 n (omega arith)) (of_z-to_z w16 n (omega arith)) c.cast_signed.ensures c.in_ok-i.ensures.number
