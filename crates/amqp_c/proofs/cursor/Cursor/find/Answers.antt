-- `Cursor::find` (src/lookup.rt): none at the key, cut before or at it, or found, as the definition
-- of a look-up has it, by the place that `place_of_key` returns.
use Rattle.std.proofs.Common.{ap, ◌∙◌, arith, length-append}
use Rattle.amqp_c.specs.Entries.{last}
use Rattle.amqp_c.proofs.LookUps.{none_at_key, cut_before_key, cut_at_key, found_at_key}
use Rattle.amqp_c.proofs.cursor.Cursor.find.Goals as goal

pub returns-in_default-place_of_key : goal.returns-in_default-place_of_key
returns-in_default-place_of_key c = cut_before_key c.args.first_key c.args.bytes.now c.args.self c.args.key.now c.in-Some.body.now c.in-Some.ensures.0 c.in-Some.ensures.1 c.in_default-place_of_key.ensures

pub returns-in_default-place : goal.returns-in_default-place
returns-in_default-place c =
    none_at_key c.args.first_key c.args.bytes.now c.args.self c.args.key.now c.in-Some.body.now c.in-Some.ensures.0 c.in-Some.ensures.1 (rw c.in_default-place.is at c.in-Ok.ensures)

pub returns-in-Some-first_pair : goal.returns-in-Some-first_pair
returns-in-Some-first_pair c =
    let x = c.in-Some-first_pair.ensures in
    found_at_key c.args.first_key c.args.bytes.now c.args.self c.args.key.now c.in-Some.body.now c.in-Some.ensures.0 c.in-Some.ensures.1 c.in-Some-place.value.now c.last.result (rw c.in-Some-place.is at c.in-Ok.ensures) (c.last.ensures ∙ ap (last c.args.self.left) (omega (arith, length-append c.args.key.now c.in-Some-place.value.now)))
    c.in-Some-first_pair.entry x.stands x.typed x.faithful x.inside.0 x.inside.1

pub returns-in-None : goal.returns-in-None
returns-in-None c =
    cut_at_key c.args.first_key c.args.bytes.now c.args.self c.args.key.now c.in-Some.body.now c.in-Some.ensures.0 c.in-Some.ensures.1 c.in-Some-place.value.now c.last.result (rw c.in-Some-place.is at c.in-Ok.ensures) (c.last.ensures ∙ ap (last c.args.self.left) (omega (arith, length-append c.args.key.now c.in-Some-place.value.now))) c.in-None.ensures.cut
