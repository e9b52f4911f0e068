-- `read_array_within`: with its type tag the array is within limits if its payload has fewer bytes
-- than `frame` and is read within the depth.
use Rattle.std.proofs.Common.{refl, arith}
use Rattle.amqp_value_core.specs.declared.types.amqp_type.AMQPType.TheVariants as amqp
use Rattle.amqp_value_core.specs.Values.{array}
use Rattle.amqp_value_core.specs.Containers.{array_view}
use Rattle.amq_protocol_types.proofs.UntaggedContainers.{untagged_result}
use Rattle.amq_protocol_types.proofs.parsing.within.read_array_within.Goals as goal

pub returns-clause-within : goal.returns-clause-within
returns-clause-within g c =
    untagged_result c.args.limits amqp.FieldArray refl (g.I.ParsableInput.bytes c.args.i) g.I.ParsableInput.bytes (λ x. array (array_view x)) c.array_within.result (omega (arith, c.counted_len.ensures.extent)) c.array_within.ensures
