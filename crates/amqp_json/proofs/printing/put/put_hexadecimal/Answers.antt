-- `put_hexadecimal`: digits that the buffer has no space for are counted, two for each byte.
use Rattle.std.proofs.Common.{arith}
use Rattle.amqp_json.proofs.Printed.{digits_counted}
use Rattle.amqp_json.proofs.printing.put.put_hexadecimal.Goals as goal

pub returns-then-end-buffer : goal.returns-then-end-buffer
returns-then-end-buffer c =
    digits_counted c.args.buffer.now c.args.at c.saturating_add-end.result c.args.bytes.now (omega (arith, c.saturating_add-end.ensures)) (omega arith)
