-- `measured` returns the size of the value that is read, or none is read: what holds of the limits
-- and bytes that are measured holds of the input.
use Rattle.std.proofs.Common.{ℕ, true, false, List, sym, ◌∙◌}
use Rattle.amq_protocol_types.specs.declared.parsing.within.Limits.{Limits}
use Rattle.amqp_in_place.specs.ProblemResults.{FindsValue}
use Rattle.amqp_c.proofs.ReadErrors.{of_parts, read_without_error}
use Rattle.amqp_in_place.proofs.Refusals.{not_read}
use Rattle.amqp_c.specs.Reads.{same_measure, HasSize}
use Rattle.amqp_c.proofs.read.measured.Goals as goal

pub returns-in-Ok : goal.returns-in-Ok
returns-in-Ok c =
    let input = c.args.input.now in
    let m = c.in-Ok.measure in
    let x = c.in-Ok.ensures in
    let is = of_parts (HasSize (same_measure m)) input c.limits.result c.bytes.result.now true c.limits.ensures c.bytes.ensures.same (sym c.is_untagged.ensures ∙ c.if-is_untagged.true)
    (record { meaning = x.within.0; read = x.within.1; inside = x.bytes.0; values = x.values; levels = x.levels; tree = x.tree }) in
    (read_without_error input c.bytes.ensures.bytes (is.meaning, _, is.read), is)

pub returns-in-Err : goal.returns-in-Err
returns-in-Err c =
    let x = c.in-Err.ensures in
    of_parts (λ (l : Limits) (given s : List ℕ). FindsValue l s → ⊥) c.args.input.now c.limits.result c.bytes.result.now true c.limits.ensures c.bytes.ensures.same
    (sym c.is_untagged.ensures ∙ c.if-is_untagged.true)
    (λ (v, rest, within). not_read c.limits.result _ rest v c.in-Err._refused within x.within x.no_memory)

pub returns-in-Ok-measure_value : goal.returns-in-Ok-measure_value
returns-in-Ok-measure_value c =
    let input = c.args.input.now in
    let m = c.in-Ok-measure_value.measure in
    let x = c.in-Ok-measure_value.ensures in
    let is = of_parts (HasSize (same_measure m)) input c.limits-2.result c.bytes-2.result.now false c.limits-2.ensures c.bytes-2.ensures.same (sym c.is_untagged.ensures ∙ c.if-is_untagged.false)
    (record { meaning = x.within.0; read = x.within.1; inside = x.bytes.0; values = x.values; levels = x.levels; tree = x.tree }) in
    (read_without_error input c.bytes-2.ensures.bytes (is.meaning, _, is.read), is)

pub returns-in-Err-measure_value : goal.returns-in-Err-measure_value
returns-in-Err-measure_value c =
    let x = c.in-Err-measure_value.ensures in
    of_parts (λ (l : Limits) (given s : List ℕ). FindsValue l s → ⊥) c.args.input.now c.limits-2.result c.bytes-2.result.now false c.limits-2.ensures c.bytes-2.ensures.same
    (sym c.is_untagged.ensures ∙ c.if-is_untagged.false)
    (λ (v, rest, within). not_read c.limits-2.result _ rest v c.in-Err-measure_value._refused within x.within x.no_memory)
