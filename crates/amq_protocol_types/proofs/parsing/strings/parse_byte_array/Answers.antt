-- `parse_byte_array` copies what is after the length in a length-prefixed field: the byte array.
use Rattle.amq_protocol_types.proofs.Frames.{octets_found}
use Rattle.amq_protocol_types.proofs.parsing.strings.parse_byte_array.Goals as goal

pub returns : goal.returns
returns g c =
    rw (c.from.ensures, c.in_ok-bytes.ensures.ok)
    (octets_found (g.I.ParsableInput.bytes c.args.i) (g.I.ParsableInput.bytes c.in_ok-i.body) (g.I.ParsableInput.bytes c.in_ok-i.i) c.in_ok-i.ensures)
