-- `AMQPFlags::get_flag` finds the first flag of the name: a flag of another name doesn't decide,
-- and the flags after it do.
use Rattle.std.proofs.Common.{true, false, sym, ◌∙◌, ap}
use Rattle.amqp_value_core.specs.Maps.{same_bytes}
use Rattle.amq_protocol_types.specs.Flags.{listed, flag_named}
use Rattle.amq_protocol_types.proofs.FlagBits.{named_more}
use Rattle.amq_protocol_types.proofs.flags.AMQPFlags.get_flag.Goals as goal

pub returns-then-eq : goal.returns-then-eq
returns-then-eq c =
    let equal = sym c.if-eq.true ∙ c.eq.ensures ∙ ap (λ t. same_bytes t c.args.name.now) c.as_str.ensures.value in
    sym (named_more c.args.name.now c.deref-n-items.result.now c.loop-n.n-index c.loop-n-item.result true c.loop-n-test.true c.loop-n-item.is equal)
    ∙ c.loop-n.invariant
    ∙ ap (λ l. flag_named c.args.name.now (listed l)) c.deref-n-items.ensures.value

pub loop-n-preserved : goal.loop-n-preserved
loop-n-preserved c =
    let other = sym c.if-eq.false ∙ c.eq.ensures ∙ ap (λ t. same_bytes t c.args.name.now) c.as_str.ensures.value in
    sym (named_more c.args.name.now c.deref-n-items.result.now c.loop-n.n-index c.loop-n-item.result false c.loop-n-test.true c.loop-n-item.is other)
    ∙ c.loop-n.invariant
