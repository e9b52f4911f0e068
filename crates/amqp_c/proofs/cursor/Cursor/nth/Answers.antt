-- `Cursor::nth` (src/lookup.rt): none at the index, cut before or at it, or found, as the
-- definition of a look-up has it, by the place that `place_of_index` returns.
use Rattle.amqp_c.proofs.LookUps.{none_at_index, cut_before_index, cut_at_index, found_at_index}
use Rattle.amqp_c.proofs.cursor.Cursor.nth.Goals as goal

pub returns-in_default-place_of_index : goal.returns-in_default-place_of_index
returns-in_default-place_of_index c = cut_before_index c.args.bytes.now c.args.self c.args.index c.in-Some.body.now c.in-Some.ensures.0 c.in-Some.ensures.1 c.in_default-place_of_index.ensures

pub returns-in_default-place : goal.returns-in_default-place
returns-in_default-place c =
    none_at_index c.args.bytes.now c.args.self c.args.index c.in-Some.body.now c.in-Some.ensures.0 c.in-Some.ensures.1 (rw c.in_default-place.is at c.in-Ok.ensures)

pub returns-in-Some-first_value : goal.returns-in-Some-first_value
returns-in-Some-first_value c =
    let x = c.in-Some-first_value.ensures in
    found_at_index c.args.bytes.now c.args.self c.args.index c.in-Some.body.now c.in-Some.ensures.0 c.in-Some.ensures.1 c.in-Some-place.value.now c.last.result (rw c.in-Some-place.is at c.in-Ok.ensures) c.last.ensures
    c.in-Some-first_value.entry x.stands x.typed x.faithful x.inside.0 x.inside.1

pub returns-in-None : goal.returns-in-None
returns-in-None c =
    cut_at_index c.args.bytes.now c.args.self c.args.index c.in-Some.body.now c.in-Some.ensures.0 c.in-Some.ensures.1 c.in-Some-place.value.now c.last.result (rw c.in-Some-place.is at c.in-Ok.ensures) c.last.ensures c.in-None.ensures.cut
