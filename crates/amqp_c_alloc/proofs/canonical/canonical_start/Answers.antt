-- `canonical_start` returns nothing only if the input has no canonical encoding at its start: both
-- searches look at the input's own bytes, with the type tag if it lacks that.
use Rattle.std.proofs.Common.{◌≡◌, refl, sym}
use Rattle.amqp_value_core.specs.declared.types.amqp_type.AMQPType.TheVariants.{FieldTable}
use Rattle.amq_protocol_types.specs.parsing.Untagged.{tagged}
use Rattle.amqp_c.specs.Inputs.{limits, encoding}
use Rattle.amqp_c_alloc.proofs.CanonicalWritten.{not_canonical}
use Rattle.amqp_c_alloc.proofs.canonical.canonical_start.Goals as goal

pub returns-then-is_untagged-clause-none : goal.returns-then-is_untagged-clause-none
returns-then-is_untagged-clause-none c none =
    let same : tagged FieldTable c.args.input.now.bytes.now ≡ encoding c.args.input.now = rw (sym c.if-is_untagged.ensures) refl in
    not_canonical c.limits.result (limits c.args.input.now) (tagged FieldTable c.args.input.now.bytes.now) (encoding c.args.input.now) c.limits.ensures same (c.canonical_table.ensures.none none)

pub returns-else-is_untagged-clause-none : goal.returns-else-is_untagged-clause-none
returns-else-is_untagged-clause-none c none =
    let same : c.args.input.now.bytes.now ≡ encoding c.args.input.now = rw (sym c.if-is_untagged.ensures) refl in
    not_canonical c.limits-else-is_untagged.result (limits c.args.input.now) c.args.input.now.bytes.now (encoding c.args.input.now) c.limits-else-is_untagged.ensures same (c.canonical_value.ensures.none none)
