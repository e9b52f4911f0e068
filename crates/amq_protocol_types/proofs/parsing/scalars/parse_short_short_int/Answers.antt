-- The byte that `parse_short_short_int` reads is a `ShortShortInt`'s payload: the cast to a signed
-- number keeps its bits.
use Rattle.std.proofs.Common.{refl, arith}
use Rattle.std.specs.Int.{w8}
use Rattle.std.proofs.lemmas.Int.{of_z-to_z}
use Rattle.amqp_value_core.specs.declared.types.amqp_type.AMQPType.TheVariants as amqp
use Rattle.amq_protocol_types.proofs.Payloads.{WidthReadsBack-8, signed_found}
use Rattle.amq_protocol_types.proofs.parsing.scalars.parse_short_short_int.Goals as goal

pub returns : goal.returns
returns g c =
    let n = c.in_ok-i.n in
    signed_found amqp.ShortShortInt w8 (g.I.ParsableInput.bytes c.args.i) (g.I.ParsableInput.bytes c.in_ok-i.i) n c.cast_signed.result refl
    (WidthReadsBack-8 n (omega arith)) (of_z-to_z w8 n (omega arith)) c.cast_signed.ensures c.in_ok-i.ensures.number
