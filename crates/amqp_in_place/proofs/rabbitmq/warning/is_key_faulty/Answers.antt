-- `is_key_faulty`: for each `Fault` the answer is as defined; a key is repeated exactly if `insert`
-- finds it in `seen`.
use Rattle.amqp_in_place.proofs.KeyFaults.{tells_repeated, tells_utf8, tells_empty, tells_deep, tells_decimal}
use Rattle.amqp_in_place.proofs.rabbitmq.warning.is_key_faulty.Goals as goal

pub returns-in_ok-insert-in-Repeated : goal.returns-in_ok-insert-in-Repeated
returns-in_ok-insert-in-Repeated c = rw c.in-Repeated.is (tells_repeated c.args.seen.now c.insert.new.self c.args.key c.in_ok-insert-in-Repeated.field-0 c.in_ok-insert-in-Repeated.ensures.added c.in_ok-insert-in-Repeated.ensures.updates)

pub returns-in-NotUtf8 : goal.returns-in-NotUtf8
returns-in-NotUtf8 c = rw c.in-NotUtf8.is (tells_utf8 c.args.seen.now c.args.key.now c.check_utf8.result c.is_err.result c.check_utf8.ensures c.is_err.ensures.value)

pub returns-in-Empty : goal.returns-in-Empty
returns-in-Empty c = rw c.in-Empty.is (tells_empty c.args.seen.now c.args.key.now c.is_empty.result c.is_empty.ensures)

pub returns-in-TooDeep : goal.returns-in-TooDeep
returns-in-TooDeep c = rw c.in-TooDeep.is (tells_deep c.args.seen.now c.args.key.now)

pub returns-in-Decimal : goal.returns-in-Decimal
returns-in-Decimal c = rw c.in-Decimal.is (tells_decimal c.args.seen.now c.args.key.now)
