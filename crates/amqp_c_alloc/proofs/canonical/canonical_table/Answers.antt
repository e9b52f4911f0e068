-- `canonical_table` returns the canonical encoding of the table: the bytes that
-- `canonical_table_len` counts are canonical after a table's type tag.
use Rattle.std.proofs.Common.{◌+◌, refl, subst, arith}
use Rattle.amqp_value_core.specs.declared.types.amqp_type.AMQPType.TheVariants.{FieldTable}
use Rattle.amq_protocol_types.specs.parsing.Untagged.{tagged}
use Rattle.amqp_in_place.proofs.Canonicals.{bytes_all}
use Rattle.amqp_c_alloc.specs.CanonicalCalls.{IsCanonicalText}
use Rattle.amqp_c_alloc.proofs.CanonicalWritten.{canonical_prefix, take_more}
use Rattle.amqp_c_alloc.proofs.canonical.canonical_table.Goals as goal

pub returns-in-Some-clause-canonical : goal.returns-in-Some-clause-canonical
returns-in-Some-clause-canonical c =
    let s = tagged FieldTable c.args.bytes.now in
    subst (IsCanonicalText c.args.limits s) (take_more c.in-Some.count 70 c.args.bytes.now)
    (canonical_prefix c.args.limits s (1 + c.in-Some.count) (omega arith, bytes_all c.args.bytes.now c.type_inv.bytes) c.in-Some.ensures.len)

pub returns-in-None-clause-none : goal.returns-in-None-clause-none
returns-in-None-clause-none c = λ _. c.in-None.ensures.none refl
