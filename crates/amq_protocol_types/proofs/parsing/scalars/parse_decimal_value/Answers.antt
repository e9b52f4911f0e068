-- The five bytes that `parse_decimal_value` reads are a decimal's payload: one for the scale, then
-- four for the number. Both numbers are read back from their bytes.
use Rattle.std.proofs.Common.{arith}
use Rattle.amq_protocol_types.proofs.Payloads.{WidthReadsBack-8, WidthReadsBack-32, decimal_found}
use Rattle.amq_protocol_types.proofs.parsing.scalars.parse_decimal_value.Goals as goal

pub returns : goal.returns
returns g c =
    let scale = c.in_ok-i.scale in
    let n = c.in_ok-i-2.value in
    decimal_found (g.I.ParsableInput.bytes c.args.i) (g.I.ParsableInput.bytes c.in_ok-i.i) (g.I.ParsableInput.bytes c.in_ok-i-2.i) scale n
    (WidthReadsBack-8 scale (omega arith)) (WidthReadsBack-32 n (omega arith)) c.in_ok-i.ensures.number c.in_ok-i-2.ensures.number
