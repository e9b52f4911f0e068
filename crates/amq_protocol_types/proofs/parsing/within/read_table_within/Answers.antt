-- `read_table_within`: with its type tag the table is within limits if its payload has fewer bytes
-- than `frame` and is read within the depth.
use Rattle.std.proofs.Common.{refl, arith}
use Rattle.amqp_value_core.specs.declared.types.amqp_type.AMQPType.TheVariants as amqp
use Rattle.amqp_value_core.specs.Values.{table}
use Rattle.amqp_value_core.specs.Containers.{table_view}
use Rattle.amq_protocol_types.proofs.UntaggedContainers.{untagged_result}
use Rattle.amq_protocol_types.proofs.parsing.within.read_table_within.Goals as goal

pub returns-clause-within : goal.returns-clause-within
returns-clause-within g c =
    untagged_result c.args.limits amqp.FieldTable refl (g.I.ParsableInput.bytes c.args.i) g.I.ParsableInput.bytes (λ x. table (table_view x)) c.table_within.result (omega (arith, c.counted_len.ensures.extent)) c.table_within.ensures
