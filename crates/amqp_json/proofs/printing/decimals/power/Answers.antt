-- `power`: 10^places is between 10^0 and 10^18.
use Rattle.std.proofs.Common.{arith}
use Rattle.std.proofs.Math.Nat.{pow-le-pow_right}
use Rattle.amqp_json.proofs.printing.decimals.power.Goals as goal

pub returns-clause-bound : goal.returns-clause-bound
returns-clause-bound c =
    let n = c.args.places in
    rw c.pow.ensures (pow-le-pow_right {n = 10} (omega arith) {i = 0} {j = n} (omega arith), pow-le-pow_right {n = 10} (omega arith) {i = n} {j = 18} c.requires)
