-- `put_document`: the tokens open too many exactly if those of the value do; other tokens after it
-- are no reason.
use Rattle.std.proofs.Common.{rules, ◌≡◌, ◌∷◌, Some, ap, ◌∙◌, arith}
use Rattle.json.specs.Reads.{token_of}
use Rattle.amqp_json.specs.Nesting.{OpensTooMany}
use Rattle.amqp_json.proofs.Refusals.{document_refused, more_tokens}
use Rattle.amqp_json.proofs.reading.walk.put_document.Goals as goal

pub returns-in_err-put_value-clause-nesting : goal.returns-in_err-put_value-clause-nesting
returns-in_err-put_value-clause-nesting c =
    let reports = document_refused c.args.levels c.args.reader.now c.in_err-put_value.field-0.0 c.in_err-put_value.ensures.refused in
    search (rules, reports)

pub returns-in-Some-clause-nesting : goal.returns-in-Some-clause-nesting
returns-in-Some-clause-nesting c =
    let (w, v, same, encodes, found) = c.in_ok-put_value.ensures.ok in
    let s = c.next.new.self in
    let t = token_of c.in-Some.field-0 in
    let next : c.put_value.new.reader ≡ t ∷ s = search rules in
    let few : OpensTooMany c.args.levels c.args.reader.now → ⊥ = more_tokens c.args.levels c.args.reader.now s t v (found c.args.levels (omega arith) ∙ ap (λ ts. Some (v, ts)) next) in
    search (rules, few)
