-- `decimal` encodes the decimal of the scale and the bits, which fit 32 bits: the scale in a byte,
-- then the bits in four.
use Rattle.std.proofs.Common.{refl, ap, ◌∙◌}
use Rattle.std.specs.Int.{w32, to_be_bytes}
use Rattle.amqp_value_core.specs.Values.{decimal}
use Rattle.amqp_c.proofs.Scalars.{converted, decimal_written}
use Rattle.amqp_c.proofs.number.decimal.Goals as goal

pub returns : goal.returns
returns c =
    let n = converted c.try_from.result c.ok.result c.in_ok-n.n _ _ (c.in_ok-n.was {u = tt}) c.ok.ensures.value c.try_from.ensures in (
      decimal c.args.scale c.args.bits,
      record { in_range = (c.ranges.scale.fits, n.0); same_type = refl; same_bits = refl; same_scale = refl },
      decimal_written c.args.scale c.args.bits c.to_be_bytes.result c.new.result c.ranges.scale.fits (c.to_be_bytes.ensures ∙ ap (to_be_bytes w32) n.1) c.new.ensures,
    )
