-- `parse_field_array_within`: the laws of reading within limits hold of its input after an array's
-- type tag, and reading with the tag results in what reading without it does.
use Rattle.std.proofs.Common.{refl, arith}
use Rattle.amqp_value_core.specs.declared.types.amqp_type.AMQPType.TheVariants as amqp
use Rattle.amqp_value_core.specs.Values.{array}
use Rattle.amqp_value_core.specs.Containers.{array_view}
use Rattle.amq_protocol_types.specs.parsing.Untagged.{tagged}
use Rattle.amq_protocol_types.proofs.LimitLaws.{read_result, laws_within}
use Rattle.amq_protocol_types.proofs.UntaggedContainers.{payload_within, reads_payloads_back}
use Rattle.amq_protocol_types.proofs.parsing.within.parse_field_array_within.Goals as goal

pub returns-clause-payload : goal.returns-clause-payload
returns-clause-payload g c = payload_within c.args.limits amqp.FieldArray refl (g.I.ParsableInput.bytes c.args.i)

pub returns-clause-read_back : goal.returns-clause-read_back
returns-clause-read_back g c = reads_payloads_back c.args.limits amqp.FieldArray

pub returns-clause-laws : goal.returns-clause-laws
returns-clause-laws g c = laws_within c.args.limits (tagged amqp.FieldArray (g.I.ParsableInput.bytes c.args.i)) (omega arith, c.read_array_within.ensures.bytes)

pub returns-clause-value : goal.returns-clause-value
returns-clause-value g c =
    read_result g.I.ParsableInput.bytes (λ x. array (array_view x)) c.args.limits (tagged amqp.FieldArray (g.I.ParsableInput.bytes c.args.i)) c.read_array_within.result c.read_array_within.ensures.within
    (omega arith, c.read_array_within.ensures.bytes)
