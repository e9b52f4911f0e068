-- `write_json`: the buffer has the text if the count of `write_json_of_view` fits it, and otherwise
-- the error has the count.
use Rattle.std.proofs.Common.{◌≤◌, length, arith}
use Rattle.amqp_in_place.proofs.Canonicals.{bytes_all}
use Rattle.amqp_json.proofs.printing.write_json.Goals as goal

pub returns-then-count-capacity : goal.returns-then-count-capacity
returns-then-count-capacity c =
    let s = c.args.bytes.now in
    let is = c.in-Ok.ensures in
    let rest = c.in-Ok.read.1.now in
    let (t, json, count, fits) = c.write_json_of_view-count.ensures.written c.args.limits s rest (bytes_all s c.type_inv.bytes, is.inside, is.within) in
    record { written = (t, rest, json, count, omega arith) }

pub returns : goal.returns
returns c =
    let s = c.args.bytes.now in
    let is = c.in-Ok.ensures in
    let rest = c.in-Ok.read.1.now in
    let (t, json, count, fits) = c.write_json_of_view-count.ensures.written c.args.limits s rest (bytes_all s c.type_inv.bytes, is.inside, is.within) in
    let few : c.write_json_of_view-count.result ≤ length c.args.buffer.now = omega arith in
    record { written = (t, json, (fits few).0, few, (fits few).1) }
