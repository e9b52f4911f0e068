-- `put_escaped`: each pass through the loop puts the plain bytes up to a stop, or an escape.
use Rattle.std.proofs.Common.{◌++◌, take, drop, ◌-◌, arith}
use Rattle.amqp_json.proofs.Escapes.{escaped_run, escaped_byte}
use Rattle.amqp_json.proofs.Printed.{puts_more}
use Rattle.amqp_json.proofs.printing.put.put_escaped.Goals as goal

pub loop-from-preserved-then-is_plain : goal.loop-from-preserved-then-is_plain
loop-from-preserved-then-is_plain c =
    let text = c.args.text.now in
    let l = c.loop-from in
    let stop = c.plain_end-stop in (
      stop.ensures.bound,
      l.invariant.1 ++ take (stop.result - l.from) (drop l.from text),
      puts_more _ _ _ _ _ _ l.invariant.1 _ l.invariant.2 c.put-at.ensures,
      escaped_run text l.invariant.1 _ l.from stop.result stop.ensures.value l.invariant.3,
    )

pub loop-from-preserved : goal.loop-from-preserved
loop-from-preserved c =
    let text = c.args.text.now in
    let l = c.loop-from in (
      omega arith,
      _,
      puts_more _ _ _ _ _ _ l.invariant.1 _ l.invariant.2 c.put_escape-at.ensures,
      escaped_byte text l.invariant.1 _ l.from (omega arith) l.invariant.3,
    )
