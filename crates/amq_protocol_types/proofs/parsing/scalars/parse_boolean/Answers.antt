-- The byte that `parse_boolean` reads is a payload of width 1, whose number decides the boolean.
use Rattle.std.proofs.Common.{arith}
use Rattle.amq_protocol_types.proofs.Payloads.{WidthReadsBack-8, boolean_found}
use Rattle.amq_protocol_types.proofs.parsing.scalars.parse_boolean.Goals as goal

pub returns : goal.returns
returns g c =
    let n = c.in_ok-i.byte in
    boolean_found (g.I.ParsableInput.bytes c.args.i) (g.I.ParsableInput.bytes c.in_ok-i.i) n (WidthReadsBack-8 n (omega arith)) c.in_ok-i.ensures.number
