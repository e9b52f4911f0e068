-- `write_number`: what is written is a number or null.
use Rattle.std.proofs.lemmas.Result.{on_ok_weaker}
use Rattle.json.specs.Json.{number, null}
use Rattle.amqp_show.proofs.plain.write_number.Goals as goal

pub returns-then-is_number : goal.returns-then-is_number
returns-then-is_number c = record { number = on_ok_weaker c.number.result (λ e. (number c.args.text.now, tt, e)) c.number.ensures.ok; before = c.number.ensures.room.0 }

pub returns-else-is_number : goal.returns-else-is_number
returns-else-is_number c = record { number = on_ok_weaker c.null.result (λ e. (null, tt, e)) c.null.ensures.ok; before = c.null.ensures.room.0 }
