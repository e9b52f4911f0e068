-- The first fault in values and in pairs: an entry without one is passed over by its length, and
-- then the first is still ahead or there is none.
use Rattle.std.proofs.Common.{refl, ap, sym, ◌∙◌, ◌-◌, ◌+◌, length, take, drop, arith}
use Rattle.std.specs.Prelude.{max}
use Rattle.amq_protocol_types.specs.parsing.Headers.{extent}
use Rattle.amqp_in_place.specs.RabbitmqWarnings.{fault_in_value, fault_inside}
use Rattle.amqp_in_place.proofs.KeyFaults.{ValuesPassed-next, PairsPassed-on}
use Rattle.amqp_in_place.proofs.rabbitmq.warning.+faults.Goals as goal

pub in_values-values-preserved : goal.in_values-values-preserved
in_values-values-preserved t c =
    let s = c.args.body.now in
    let n = c.values.at in
    let longest = c.max-at.ensures ∙ ap (λ m. max m 1) (c.value_len.ensures.extent ∙ ap extent c.new.ensures) in
    ValuesPassed-next (fault_in_value (fault_inside c.args.fault c.args.depth)) s (take (length s - n) (drop n s)) n c.max-at.result c.values.invariant (omega (arith, c.values-test.true)) refl (sym (c.in_ok-offset.ensures {u = tt}).first ∙ c.in_default.is) longest

pub in_pairs-pairs-preserved : goal.in_pairs-pairs-preserved
in_pairs-pairs-preserved t c =
    let s = c.args.body.now in
    let n = c.pairs.at in
    let len = c.value_len.ensures.extent ∙ ap extent c.new.ensures in
    PairsPassed-on c.args.fault (fault_in_value (fault_inside c.args.fault c.args.depth)) s (take (length s - n) (drop n s)) c.split_key.result.0.now c.split_key.result.1.now n (n + 1 + length c.split_key.result.0.now + c.value_len.result) c.pairs.seen c.is_key_faulty.new.seen c.in_ok-is_key_faulty.field-0
    c.pairs.invariant (omega (arith, c.pairs-test.true)) refl c.split_key.ensures.key c.split_key.ensures.after (c.in_ok-is_key_faulty.ensures {u = tt}) c.if-branch.false (sym (c.in_ok-offset.ensures {u = tt}).first ∙ c.in_default.is) (omega (arith, len))
