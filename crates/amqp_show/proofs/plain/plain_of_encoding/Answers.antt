-- `plain_of_encoding`: `read_in_place` returns a view of what it read, whose plain JSON is written.
use Rattle.amqp_in_place.proofs.Canonicals.{bytes_all}
use Rattle.amqp_in_place.specs.Written.{written}
use Rattle.amqp_json.proofs.AsWritten.{read_as}
use Rattle.amqp_show.proofs.plain.plain_of_encoding.Goals as goal

pub returns-in_ok-text_of-in-Ok-clause-json : goal.returns-in_ok-text_of-in-Ok-clause-json
returns-in_ok-text_of-in-Ok-clause-json c =
    let s = c.args.bytes.now in
    let rest = c.in-Ok.field-0-1.now in
    let (w, v, p, split, within, viewed, has) = read_as c.args.limits s rest c.in-Ok.value (bytes_all s c.type_inv.bytes, c.in-Ok.ensures.inside, c.in-Ok.ensures.within) in
    let (j, is, e) = c.in_ok-text_of-in-Ok.ensures (written w v p) viewed in
    (w, rest, v, p, split, within, j, is, e)
