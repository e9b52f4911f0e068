-- `TableRef::to_owned`: the body is known to be pairs, so parsing it returns the entries that they
-- mean, or fails only because memory runs out; then the body isn't empty.
use Rattle.std.proofs.Common.{List, ℕ, ◌<◌, length, subst, arith}
use Rattle.amqp_value_core.specs.Bytes.{slice_bytes}
use Rattle.amq_protocol_types.specs.parsing.ParseResults.{IsRefusal}
use Rattle.amq_protocol_types.specs.parsing.Bodies.{IsNoTable}
use Rattle.amqp_value_core.specs.Containers.{table_view}
use Rattle.amqp_in_place.specs.Bodies.{HasEntries}
use Rattle.amqp_in_place.proofs.HeadLemmas.{entries_of_table}
use Rattle.amqp_in_place.proofs.Reading.{pairs_there}
use Rattle.amqp_in_place.proofs.refs.TableRef.to_owned.Goals as goal

pub returns-in-Ok : goal.returns-in-Ok
returns-in-Ok c =
    let es = table_view c.in-Ok.table in
    subst (λ (t : List ℕ). HasEntries t es) c.body-body.ensures.body (entries_of_table c.input_len.result (slice_bytes c.body-body.result) es c.in-Ok.ensures)

pub returns-in-Err-Failure : goal.returns-in-Err-Failure
returns-in-Err-Failure c =
    let s = slice_bytes c.body-body.result in
    let x = subst (IsRefusal (IsNoTable c.input_len.result s) (0 < length s)) c.in-Err-Failure.field-0-is c.in-Err-Failure.ensures in
    subst (λ (t : List ℕ). 0 < length t) c.body-body.ensures.body x.1

pub unreachable-requires : goal.unreachable-requires
unreachable-requires c =
    pairs_there c.input_len.result (slice_bytes c.body-body.result) c.in-Err-Incomplete.field-0 (omega arith) c.body-body.ensures.well_formed c.in-Err-Incomplete.ensures
    (λ k is. absurd (cc (is, c.in-Err-Incomplete.field-0-is)))

pub unreachable-requires-in-Err-Error : goal.unreachable-requires-in-Err-Error
unreachable-requires-in-Err-Error c =
    pairs_there c.input_len.result (slice_bytes c.body-body.result) c.in-Err-Error.field-0 (omega arith) c.body-body.ensures.well_formed c.in-Err-Error.ensures
    (λ k is. absurd (cc (is, c.in-Err-Error.field-0-is)))
