-- `result_of_bytes` prints what `compute_outcome` computes: the parser returns that value
-- (`said_of_outcome`) or that error (`said_of_refusal`).
use Rattle.std.proofs.Common.{◌≡◌, length, string_bytes, rules}
use Rattle.std.proofs.lemmas.Result.{IfOk-weaker}
use Rattle.amqp_value_core.specs.Outcomes.{Outcome, Heavy, found}
use Rattle.amqp_value_core.specs.Decode.{compute_outcome}
use Rattle.amqp_value_core.specs.View.{view}
use Rattle.amq_protocol_types.specs.parsing.ParseResults.{IsRefusal}
use Rattle.amqp_wire.specs.Lines.{said, said_of_value, IsSaid}
use Rattle.amqp_wire.proofs.Outcomes.{said_of_outcome, said_of_refusal}
use Rattle.amqp_wire.proofs.line.result_of_bytes.Goals as goal

pub returns-in-Ok : goal.returns-in-Ok
returns-in-Ok g c =
    let s = g.I.ParsableInput.bytes c.args.bytes in
    let rest = g.I.ParsableInput.bytes c.in-Ok.rest in
    let said_it : said_of_value (view c.in-Ok.value) (length rest) ≡ said (compute_outcome s) = said_of_outcome s (found (view c.in-Ok.value) rest) c.input_len-count.ensures.bytes (search (rules, c.in-Ok.ensures.outcome)) in
    search (rules, said_it)

pub returns-in-Err : goal.returns-in-Err
returns-in-Err g c =
    let s = g.I.ParsableInput.bytes c.args.bytes in
    let right : IsRefusal (Outcome s) (Heavy s) c.in-Err.error = search (rules, c.in-Err.ensures.outcome) in
    IfOk-weaker c.refusal_text.result (λ a. IsSaid c.in-Err.error (string_bytes a)) (λ a. string_bytes a ≡ said (compute_outcome s)) (λ a is. said_of_refusal s c.in-Err.error _ c.input_len-count.ensures.bytes right is) c.refusal_text.ensures
