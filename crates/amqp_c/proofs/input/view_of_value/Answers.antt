-- `view_of_value` returns a view of the value, or none is read within the limits, since bytes
-- aren't both read and rejected.
use Rattle.amqp_in_place.proofs.Canonicals.{bytes_all}
use Rattle.amqp_in_place.proofs.Refusals.{not_read}
use Rattle.amqp_c.proofs.input.view_of_value.Goals as goal

pub returns-in-Ok : goal.returns-in-Ok
returns-in-Ok c = (c.in-Ok.field-0-1.now, (bytes_all c.args.bytes.now c.type_inv.bytes, c.in-Ok.ensures.inside, c.in-Ok.ensures.within))

pub returns-in-Err : goal.returns-in-Err
returns-in-Err c (v, rest, within) = not_read c.args.limits c.args.bytes.now rest v c.in-Err.field-0 within c.in-Err.ensures.within c.in-Err.ensures.no_memory
