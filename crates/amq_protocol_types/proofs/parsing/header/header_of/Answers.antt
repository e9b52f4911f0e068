-- `header_of` returns `Unknown` if the first byte is no type tag: reading results in `unknown`, and
-- the `extent` is 0, within any limit.
use Rattle.std.proofs.Common.{arith}
use Rattle.amq_protocol_types.proofs.Refusals.{no_type_unknown}
use Rattle.amq_protocol_types.proofs.parsing.header.header_of.Goals as goal

pub returns-in_default-clause-header : goal.returns-in_default-clause-header
returns-in_default-clause-header g c =
    no_type_unknown c.args.frame (g.I.ParsableInput.bytes c.args.i) c.in_default.field-0 (omega (arith, c.input_len.ensures.count, c.if-input_len-eq0.false)) c.in_default.ensures.id
