-- `put_json` writes the JSON text, or the buffer is too small: by what `write_json_of_view` returns
-- for the value that is read.
use Rattle.std.proofs.Common.{◌≤◌, length, ap, inr, arith}
use Rattle.amqp_c.specs.declared.fault.Fault.TheVariants.{NoRoom}
use Rattle.amqp_c.specs.Inputs.{limits, encoding}
use Rattle.amqp_c.proofs.json.put_json.Goals as goal

pub returns-then-count-capacity-clause-written : goal.returns-then-count-capacity-clause-written
returns-then-count-capacity-clause-written c =
    let input = c.args.input.now in
    let (rest, read) = c.in_ok-value.ensures.read in
    let (t, is, counted, put) = c.write_json_of_view-count.ensures.written (limits input) (encoding input) rest read in
    inr (t, rest, is, (ap NoRoom counted, omega (arith, counted)))

pub returns-clause-written : goal.returns-clause-written
returns-clause-written c =
    let input = c.args.input.now in
    let (rest, read) = c.in_ok-value.ensures.read in
    let (t, is, counted, put) = c.write_json_of_view-count.ensures.written (limits input) (encoding input) rest read in
    let few : c.write_json_of_view-count.result ≤ length c.args.buffer.now = omega arith in
    (t, rest, is, ((put few).0, few, (put few).1))
