-- `parse_value` results in what reading the payload does. Each input has one outcome, which is kept
-- if more bytes follow, and a value can be written in as many bytes as it was read from.
use Rattle.std.proofs.lemmas.Result.{err_from_is_err_and}
use Rattle.amqp_value_core.proofs.GrammarLaws.{more_bytes}
use Rattle.amq_protocol_types.proofs.LimitLaws.{has_one_outcome}
use Rattle.amq_protocol_types.proofs.TaggedValues.{value_result, no_value, bounded_result}
use Rattle.amq_protocol_types.proofs.parsing.values.parse_value.Goals as goal

pub returns-in_err-i-clause-outcome : goal.returns-in_err-i-clause-outcome
returns-in_err-i-clause-outcome g c =
    let p = err_from_is_err_and c.from_residual.result c.from_residual.ensures.1 in
    rw (p.1, p.2) (no_value (g.I.ParsableInput.bytes c.args.i) c.in_err-i.field-0.0 c.in_err-i.ensures.id)

pub returns-in_err-i-clause-one : goal.returns-in_err-i-clause-one
returns-in_err-i-clause-one g c = has_one_outcome (g.I.ParsableInput.bytes c.args.i) c.parse_type.ensures.bytes

pub returns-in_err-i-clause-more_bytes : goal.returns-in_err-i-clause-more_bytes
returns-in_err-i-clause-more_bytes g c = λ o t. more_bytes (g.I.ParsableInput.bytes c.args.i) t o

pub returns-clause-outcome : goal.returns-clause-outcome
returns-clause-outcome g c =
    let bytes = g.I.ParsableInput.bytes in
    value_result (bytes c.args.i) (bytes c.in_ok-i.i) c.in_ok-i.amqp_type c.in_ok-i.ensures.id c.in_ok-i.ensures.read_back bytes c.parse_raw_value.result c.parse_raw_value.ensures

pub returns-clause-one : goal.returns-clause-one
returns-clause-one g c = has_one_outcome (g.I.ParsableInput.bytes c.args.i) c.parse_type.ensures.bytes

pub returns-clause-more_bytes : goal.returns-clause-more_bytes
returns-clause-more_bytes g c = λ o t. more_bytes (g.I.ParsableInput.bytes c.args.i) t o

pub returns-clause-bounded : goal.returns-clause-bounded
returns-clause-bounded g c =
    let bytes = g.I.ParsableInput.bytes in
    let s = bytes c.args.i in
    bounded_result bytes s c.parse_raw_value.result
    (value_result s (bytes c.in_ok-i.i) c.in_ok-i.amqp_type c.in_ok-i.ensures.id c.in_ok-i.ensures.read_back bytes c.parse_raw_value.result c.parse_raw_value.ensures)
