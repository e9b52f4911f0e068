-- `parse_raw_value` reads a type other than `ShortString` within a depth as large as the input is
-- long, which limits no result.
use Rattle.amq_protocol_types.proofs.Payloads.{raw_value_result}
use Rattle.amq_protocol_types.proofs.parsing.values.parse_raw_value.Goals as goal

pub returns-in_default : goal.returns-in_default
returns-in_default g c =
    raw_value_result g.I.ParsableInput.bytes c.args.amqp_type c.input_len.result (g.I.ParsableInput.bytes c.args.i) c.payload_within.result c.in_default.not-ShortString c.input_len.ensures.count c.payload_within.ensures
