-- `byte_of`: flag i adds 2 ^ i if it is set, as in `number_of`, and the sum is below 2 ^ (i + 1).
use Rattle.std.proofs.Common.{arith}
use Rattle.amq_protocol_types.proofs.FlagBits.{next_bit, bit_fits}
use Rattle.amq_protocol_types.proofs.flags.byte_of.Goals as goal
use Rattle.amq_protocol_types.proofs.flags.byte_of.Goals.{then-flag, else-flag}

pub loop-i-preserved : goal.loop-i-preserved
loop-i-preserved c =
    let more = next_bit c.args.flags.now c.loop-i.i c.index-flags-i.result c.loop-i-test.true c.index-flags-i.is in
    let fits = bit_fits c.loop-i.i c.loop-i.byte (omega arith) c.loop-i.invariant.1 in
    elim c.if-flag.branch [
      | then-flag w ↦ let on = rw w.if-flag.true at more in (omega arith, omega arith)
      | else-flag w ↦ let off = rw w.if-flag.false at more in (omega arith, omega arith)
    ]
