-- `view_of_table` returns a view of the table, whose body follows its length, or none is read
-- within the limits, since bytes aren't both read and rejected.
use Rattle.amqp_value_core.specs.declared.types.amqp_type.AMQPType.TheVariants.{FieldTable}
use Rattle.amq_protocol_types.specs.parsing.Untagged.{tagged}
use Rattle.amqp_in_place.proofs.Canonicals.{bytes_all}
use Rattle.amqp_in_place.proofs.Refusals.{not_read}
use Rattle.amqp_c.proofs.Reading.{table_view}
use Rattle.amqp_c.proofs.input.view_of_table.Goals as goal

pub returns-in-Ok : goal.returns-in-Ok
returns-in-Ok c =
    let s = c.args.bytes.now in
    let rest = c.in-Ok.field-0-1.now in
    let is = c.in-Ok.ensures in
    (rest, table_view c.args.limits s c.in-Ok.table rest (bytes_all s c.type_inv.bytes) is.inside is.few is.within)

pub returns-in-Err : goal.returns-in-Err
returns-in-Err c (v, rest, within) =
    not_read c.args.limits (tagged FieldTable c.args.bytes.now) rest v c.in-Err.field-0 within c.in-Err.ensures.within c.in-Err.ensures.no_memory
