-- `times`: a shift by at most 11.
use Rattle.std.proofs.Common.{rules, ◌≤◌, ◌^◌, ◌*◌, arith}
use Rattle.std.proofs.Math.Nat.{mod-le}
use Rattle.std.proofs.Math.Pow.{pow_mono}
use Rattle.amqp_json.proofs.printing.decimals.times.Goals as goal

pub returns-clause-bound : goal.returns-clause-bound
returns-clause-bound c =
    let few : c.min.result ≤ 11 = search rules in
    let shifted : 2 ^ c.min.result ≤ 2 ^ 11 = pow_mono few in
    omega (arith, mod-le (1 * 2 ^ c.min.result) 18446744073709551616, shifted)
