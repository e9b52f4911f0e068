-- `parse_field_table` reads within a depth as large as the input is long, which limits no result.
use Rattle.amqp_value_core.specs.declared.types.amqp_type.AMQPType.TheVariants as amqp
use Rattle.amqp_value_core.specs.Values.{table}
use Rattle.amqp_value_core.specs.Containers.{table_view}
use Rattle.amq_protocol_types.proofs.Payloads.{raw_unlimited_result}
use Rattle.amq_protocol_types.proofs.parsing.values.parse_field_table.Goals as goal

pub returns : goal.returns
returns g c =
    raw_unlimited_result g.I.ParsableInput.bytes (λ x. table (table_view x)) amqp.FieldTable c.input_len.result (g.I.ParsableInput.bytes c.args.i) c.table_within.result c.input_len.ensures.count c.table_within.ensures
