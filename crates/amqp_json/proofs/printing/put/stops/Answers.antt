-- `stops`: the bits of the three comparisons together are those of the bytes that are `is_stop`.
use Rattle.std.proofs.Common.{arith}
use Rattle.std.proofs.lemmas.Simd.{zip2_splat}
use Rattle.amqp_json.proofs.Escapes.{hit, below, both, stops_are}
use Rattle.amqp_json.proofs.printing.put.stops.Goals as goal

pub returns : goal.returns
returns c =
    let v = c.args.bytes in
    let long = c.fits-bytes.0 in
    stops_are v _ (omega arith) c.fits-bytes.1 (both _ _ v (both _ _ v (zip2_splat hit v 8 34 long) (zip2_splat hit v 8 92 long)) (zip2_splat below v 8 32 long))
