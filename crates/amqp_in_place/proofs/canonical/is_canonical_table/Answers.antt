-- `is_canonical_table`: as of `is_canonical`, for the bytes with the type tag before them, which
-- adds one to both lengths.
use Rattle.std.proofs.Common.{◌+◌, length, arith}
use Rattle.amqp_value_core.specs.declared.types.amqp_type.AMQPType.TheVariants as amqp
use Rattle.amq_protocol_types.specs.parsing.Untagged.{tagged}
use Rattle.amqp_in_place.proofs.Canonicals.{bytes_all, known_by_len, as_written, written_canon}
use Rattle.amqp_in_place.proofs.canonical.is_canonical_table.Goals as goal

pub returns-clause-yes : goal.returns-clause-yes
returns-clause-yes c =
    (known_by_len c.args.limits (tagged amqp.FieldTable c.args.bytes.now) (λ n. 1 + n) (length c.args.bytes.now) (λ i j e. omega (arith, e)) (omega arith) c.canonical_table_len.result c.eq.result c.eq.ensures c.canonical_table_len.ensures.len c.canonical_table_len.ensures.none).0

pub returns-clause-no : goal.returns-clause-no
returns-clause-no c =
    (known_by_len c.args.limits (tagged amqp.FieldTable c.args.bytes.now) (λ n. 1 + n) (length c.args.bytes.now) (λ i j e. omega (arith, e)) (omega arith) c.canonical_table_len.result c.eq.result c.eq.ensures c.canonical_table_len.ensures.len c.canonical_table_len.ensures.none).1

pub returns-clause-written : goal.returns-clause-written
returns-clause-written c = λ t.
    let bytes = bytes_all c.args.bytes.now c.type_inv.bytes in
    as_written c.args.limits (tagged amqp.FieldTable c.args.bytes.now) (omega arith, bytes) (returns-clause-yes c t)

pub returns-clause-not_written : goal.returns-clause-not_written
returns-clause-not_written c = λ f x.
    let bytes = bytes_all c.args.bytes.now c.type_inv.bytes in
    returns-clause-no c f (written_canon c.args.limits (tagged amqp.FieldTable c.args.bytes.now) (omega arith, bytes) x)
