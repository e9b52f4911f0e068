-- `ArrayRef::to_owned`: the body is known to be values, so the only error of parsing it is that
-- memory runs out, and then it isn't empty.
use Rattle.std.proofs.Common.{List, ℕ, ◌<◌, length, subst, arith}
use Rattle.amqp_value_core.specs.Bytes.{slice_bytes}
use Rattle.amq_protocol_types.specs.parsing.ParseResults.{IsRefusal}
use Rattle.amq_protocol_types.specs.parsing.Bodies.{IsNoBody}
use Rattle.amqp_in_place.proofs.Reading.{values_there}
use Rattle.amqp_in_place.proofs.refs.ArrayRef.to_owned.Goals as goal

pub returns-in-Err-Failure : goal.returns-in-Err-Failure
returns-in-Err-Failure c =
    let s = slice_bytes c.body-body.result in
    let x = subst (IsRefusal (IsNoBody c.input_len.result s) (0 < length s)) c.in-Err-Failure.field-0-is c.in-Err-Failure.ensures in
    subst (λ (t : List ℕ). 0 < length t) c.body-body.ensures.body x.1

pub unreachable-requires : goal.unreachable-requires
unreachable-requires c =
    values_there c.input_len.result (slice_bytes c.body-body.result) c.in-Err-Incomplete.field-0 (omega arith) c.body-body.ensures.well_formed c.in-Err-Incomplete.ensures
    (λ k is. absurd (cc (is, c.in-Err-Incomplete.field-0-is)))

pub unreachable-requires-in-Err-Error : goal.unreachable-requires-in-Err-Error
unreachable-requires-in-Err-Error c =
    values_there c.input_len.result (slice_bytes c.body-body.result) c.in-Err-Error.field-0 (omega arith) c.body-body.ensures.well_formed c.in-Err-Error.ensures
    (λ k is. absurd (cc (is, c.in-Err-Error.field-0-is)))
