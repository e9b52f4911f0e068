-- `parse_value_within`: the laws of reading within limits hold of any bytes, and a value that was
-- read keeps to the limits.
use Rattle.amqp_value_core.specs.View.{view}
use Rattle.amq_protocol_types.proofs.LimitLaws.{read_result, laws_within}
use Rattle.amq_protocol_types.proofs.parsing.within.parse_value_within.Goals as goal

pub returns-clause-laws : goal.returns-clause-laws
returns-clause-laws g c = laws_within c.args.limits (g.I.ParsableInput.bytes c.args.i) c.read_within.ensures.bytes

pub returns-clause-value : goal.returns-clause-value
returns-clause-value g c = read_result g.I.ParsableInput.bytes view c.args.limits (g.I.ParsableInput.bytes c.args.i) c.read_within.result c.read_within.ensures.within c.read_within.ensures.bytes
