-- `is_open` tells whether the body is open there: between what `into` has and the body's length are
-- a name that it may have and the body's type tag.
use Rattle.std.proofs.Common.{◌-◌, arith}
use Rattle.amqp_c.proofs.Growth.{is_open}
use Rattle.amqp_c.proofs.nest.is_open.Goals as goal

pub returns : goal.returns
returns c =
    is_open c.args.buffer.now c.in-Some-split_last.name.now c.args.into c.args.body c.in-Some-end_in.at (c.args.body.written.offset - 4) c.in-Some-split_last.tag.now c.has_name.result
    c.if-into-ne1.false c.if-body-ne0.false c.in-Some-end_in.ensures.1 c.in-Some-end_in.ensures.0 c.in-Some.ensures.0 c.if-not-is_container_tag.ensures
    (omega (arith, c.if-body-lt4.false)) c.in-Some-split_last.ensures.cases.0 c.if-tag-body.false c.has_name.ensures
