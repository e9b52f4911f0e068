-- `result_within` prints what `read_within` computes: the parser returns that value
-- (`said_of_within`) or that error (`said_of_limited`).
use Rattle.std.proofs.Common.{◌≡◌, length, string_bytes, rules}
use Rattle.std.proofs.lemmas.Result.{IfOk-weaker}
use Rattle.amqp_value_core.specs.Outcomes.{found}
use Rattle.amqp_value_core.specs.View.{view}
use Rattle.amq_protocol_types.specs.parsing.Limits.{RefusesWithin}
use Rattle.amqp_wire.specs.Lines.{read_within, said_within, said_of_value, IsSaid}
use Rattle.amqp_wire.proofs.Outcomes.{said_of_within, said_of_limited}
use Rattle.amqp_wire.proofs.line.result_within.Goals as goal

pub returns-in-Ok : goal.returns-in-Ok
returns-in-Ok g c =
    let s = g.I.ParsableInput.bytes c.args.bytes in
    let rest = g.I.ParsableInput.bytes c.in-Ok.rest in
    let said_it : said_of_value (view c.in-Ok.value) (length rest) ≡ said_within (read_within c.args.limits s) = said_of_within c.args.limits s (found (view c.in-Ok.value) rest) c.input_len-count.ensures.bytes (search (rules, c.in-Ok.ensures.within)) in
    search (rules, said_it)

pub returns-in-Err : goal.returns-in-Err
returns-in-Err g c =
    let s = g.I.ParsableInput.bytes c.args.bytes in
    let right : RefusesWithin c.args.limits s c.in-Err.error = search (rules, c.in-Err.ensures.within) in
    IfOk-weaker c.refusal_text.result (λ a. IsSaid c.in-Err.error (string_bytes a)) (λ a. string_bytes a ≡ said_within (read_within c.args.limits s)) (λ a is. said_of_limited c.args.limits s c.in-Err.error _ c.input_len-count.ensures.bytes right is) c.refusal_text.ensures
