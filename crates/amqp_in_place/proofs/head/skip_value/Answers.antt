-- `skip_value`: `extent` and the bytes that are left add up to all bytes, and an error within every
-- depth is one without a limit.
use Rattle.std.proofs.Common.{◌≡◌, ◌+◌, ◌-◌, ℕ, List, length, subst, arith}
use Rattle.amqp_value_core.specs.Bytes.{slice_bytes}
use Rattle.std.proofs.lemmas.Result.{err_from_is_err_and}
use Rattle.amqp_value_core.specs.Outcomes.{Outcome}
use Rattle.amq_protocol_types.specs.parsing.Headers.{extent}
use Rattle.amqp_in_place.specs.InPlaceResults.{HeadRefuses}
use Rattle.amqp_in_place.proofs.Skipping.{skipped, width_of_found, refused_so}
use Rattle.amqp_in_place.proofs.head.skip_value.Goals as goal

pub returns-clause-extent : goal.returns-clause-extent
returns-clause-extent c =
    let left = slice_bytes c.in_ok-rest.rest in
    let all : extent c.args.bytes.now + length left ≡ length c.args.bytes.now =
    subst (λ (s : List ℕ). extent s + length left ≡ length s) c.new.ensures (skipped (slice_bytes c.new.result) c.in_ok-rest.field-0-1 left c.in_ok-rest.ensures) in
    omega (arith, all)

pub returns-clause-value : goal.returns-clause-value
returns-clause-value c = width_of_found c.args.bytes.now (length c.args.bytes.now - c.input_len.result) (returns-clause-extent c)

pub overflow_sub-result : goal.overflow_sub-result
overflow_sub-result c =
    let left = slice_bytes c.in_ok-rest.rest in
    let all : extent c.args.bytes.now + length left ≡ length c.args.bytes.now =
    subst (λ (s : List ℕ). extent s + length left ≡ length s) c.new.ensures (skipped (slice_bytes c.new.result) c.in_ok-rest.field-0-1 left c.in_ok-rest.ensures) in
    omega (arith, all)

pub returns-in_err-rest-clause-err : goal.returns-in_err-rest-clause-err
returns-in_err-rest-clause-err c =
    let p = err_from_is_err_and c.from_residual.result c.from_residual.ensures.1 in
    let e = c.in_err-rest.field-0.0 in
    rw (p.1, p.2)
    (subst (λ (s : List ℕ). HeadRefuses (Outcome s) e) c.new.ensures (refused_so (slice_bytes c.new.result) e c.in_err-rest.ensures))
