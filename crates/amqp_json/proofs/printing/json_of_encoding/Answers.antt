-- `json_of_encoding`: `read_in_place` returns a view of what it read, as `json_of_view` requires.
use Rattle.amqp_in_place.proofs.Canonicals.{bytes_all}
use Rattle.amqp_json.proofs.printing.json_of_encoding.Goals as goal

pub json_of_view-requires : goal.json_of_view-requires
json_of_view-requires c =
    let s = c.args.bytes.now in
    record { read = (c.args.limits, s, c.in-Ok.rest.now, (bytes_all s c.type_inv.bytes, c.in-Ok.ensures.inside, c.in-Ok.ensures.within)) }

pub returns-in-Ok-json_of_view-clause-json : goal.returns-in-Ok-json_of_view-clause-json
returns-in-Ok-json_of_view-clause-json c =
    let s = c.args.bytes.now in
    c.in-Ok-json_of_view.ensures.json c.args.limits s c.in-Ok.rest.now (bytes_all s c.type_inv.bytes, c.in-Ok.ensures.inside, c.in-Ok.ensures.within)
