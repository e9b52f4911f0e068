-- `is_short_ascii`: up to 16 bytes are ASCII if the first eight and the last eight are.
use Rattle.std.proofs.Common.{arith}
use Rattle.amqp_c.proofs.Ascii.{ends_are_ascii}
use Rattle.amqp_c.proofs.key.is_short_ascii.Goals as goal

pub returns-then-has_no_high_bit-clause-ascii : goal.returns-then-has_no_high_bit-clause-ascii
returns-then-has_no_high_bit-clause-ascii c =
    λ is.
    ends_are_ascii c.args.bytes.now c.in-Some.first.now c.in-Some-last_chunk.last.now (omega (arith, c.if-bytes-le16.true)) c.in-Some.ensures.cases
    c.in-Some-last_chunk.ensures.cases.1 (c.has_no_high_bit.ensures c.if-has_no_high_bit.true) (c.has_no_high_bit-then-has_no_high_bit.ensures is)
