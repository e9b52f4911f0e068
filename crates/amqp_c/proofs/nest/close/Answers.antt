-- `close` closes the entry (`IsClosed`): with the length of the body before it, the body becomes an
-- encoding, by which the container grows.
use Rattle.std.proofs.Common.{◌≡◌, ◌<◌, ◌-◌, ◌^◌, List, ℕ, ap, ◌∙◌, arith, rules}
use Rattle.std.specs.Int.{w32, to_be_bytes}
use Rattle.amqp_c.specs.CallResults.{with_bytes}
use Rattle.amqp_c.proofs.Growth.{closed}
use Rattle.amqp_c.proofs.nest.close.Goals as goal

pub returns-clause-closed : goal.returns-clause-closed
returns-clause-closed c =
    let old = c.args.buffer.now in
    let body = c.args.body.written in
    let is = c.if-not-is_open.ensures in
    let few : body.length < 2 ^ 32 = omega arith in
    let counts : c.to_be_bytes.result ≡ to_be_bytes w32 body.length = search rules in
    closed old c.write.new.buffer is.0 c.args.into c.args.body c.up_to.result is.1 few
    (c.write.ensures ∙ ap (λ (l : List ℕ). with_bytes (body.offset - 4) l old) counts) c.up_to.ensures
