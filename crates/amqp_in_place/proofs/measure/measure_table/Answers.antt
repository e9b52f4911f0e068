-- `measure_table`: after the type tag the table is a view of the start of the bytes, so its measure
-- is that of the encoding there.
use Rattle.std.proofs.Common.{length, ap, arith, length-append}
use Rattle.amqp_value_core.specs.declared.types.amqp_type.AMQPType.TheVariants as amqp
use Rattle.amqp_value_core.specs.Values.{table}
use Rattle.amq_protocol_types.specs.parsing.Untagged.{tagged}
use Rattle.amqp_in_place.specs.declared.refs.ValueRef.TheVariants as at
use Rattle.amqp_in_place.specs.Places.{IsViewIn}
use Rattle.amqp_in_place.proofs.Measuring.{rest_dropped, measured_bytes}
use Rattle.amqp_in_place.proofs.Untagged.{table_at_start}
use Rattle.amqp_in_place.proofs.measure.measure_table.Goals as goal

pub measure_of-requires : goal.measure_of-requires
measure_of-requires c = c.in_ok-table.ensures.few

-- with its type tag the table is at the start
here : (c : goal.After-measure_of) → IsViewIn (tagged amqp.FieldTable c.args.bytes.now) (at.FieldTable c.in_ok-table.table) c.in_ok-table.rest.now
here c = table_at_start c.args.bytes.now c.in_ok-table.table c.in_ok-table.rest.now c.in_ok-table.ensures.inside c.in_ok-table.ensures.few

pub returns-clause-within : goal.returns-clause-within
returns-clause-within c =
    let read = c.in_ok-table.ensures.within in
    (table read.0, rw (rest_dropped c.args.bytes.now c.in_ok-table.rest.now c.in_ok-table.ensures.rest c.measure_of.result.bytes c.measure_of.ensures.bytes) read.2)

pub returns-clause-bytes : goal.returns-clause-bytes
returns-clause-bytes c = (
  omega (arith, c.measure_of.ensures.bytes),
  λ w left v p e.
      omega (arith, c.measure_of.ensures.bytes, ap length c.in_ok-table.ensures.rest.1, length-append c.in_ok-table.ensures.rest.0 c.in_ok-table.rest.now, measured_bytes (tagged amqp.FieldTable c.args.bytes.now) c.in_ok-table.rest.now (at.FieldTable c.in_ok-table.table) (here c) w left v p e),
)

pub returns-clause-values : goal.returns-clause-values
returns-clause-values c = c.measure_of.ensures.values (tagged amqp.FieldTable c.args.bytes.now) c.in_ok-table.rest.now (here c)

pub returns-clause-levels : goal.returns-clause-levels
returns-clause-levels c = c.measure_of.ensures.levels (tagged amqp.FieldTable c.args.bytes.now) c.in_ok-table.rest.now (here c)

pub returns-clause-tree : goal.returns-clause-tree
returns-clause-tree c = c.measure_of.ensures.tree (tagged amqp.FieldTable c.args.bytes.now) c.in_ok-table.rest.now (here c)
