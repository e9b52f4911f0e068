-- `read_in_place_unlimited`: containers can't nest deeper than there are bytes, so with that as the
-- limit the outcome is the one without a limit.
use Rattle.std.proofs.Common.{ℕ, List, length, sym, ap, subst, arith}
use Rattle.std.proofs.lemmas.Result.{err_from_is_err_and}
use Rattle.amqp_value_core.specs.Outcomes.{Outcome, found}
use Rattle.amqp_value_core.proofs.GrammarLaws.{unlimited}
use Rattle.amqp_value_core.specs.Bytes.{slice_bytes}
use Rattle.amq_protocol_types.specs.parsing.ParseResults.{IsRefusal}
use Rattle.amqp_in_place.proofs.Reading.{unlimited_refused}
use Rattle.amqp_in_place.proofs.read.read_in_place_unlimited.Goals as goal

pub returns-in_err-rest-clause-outcome : goal.returns-in_err-rest-clause-outcome
returns-in_err-rest-clause-outcome c =
    let p = err_from_is_err_and c.from_residual.result c.from_residual.ensures.1 in
    let e = c.in_err-rest.field-0.0 in
    rw (p.1, p.2)
    (subst (λ (s : List ℕ). IsRefusal (Outcome s) ⊥ e) c.new.ensures
    (unlimited_refused (length c.args.bytes.now) (slice_bytes c.new.result) e (ap length (sym c.new.ensures)) c.in_err-rest.ensures.outcome))

pub returns-clause-outcome : goal.returns-clause-outcome
returns-clause-outcome c =
    let x = c.in_ok-rest.ensures.outcome in
    let read = unlimited (length c.args.bytes.now) (slice_bytes c.new.result) (found x.0 (slice_bytes c.in_ok-rest.rest)) (omega (arith, ap length c.new.ensures)) x.2 in
    (x.0, x.1, rw c.as_slice.ensures (subst (λ (s : List ℕ). Outcome s (found x.0 (slice_bytes c.in_ok-rest.rest))) c.new.ensures read))
