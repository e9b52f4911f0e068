-- `is_read`: what `read_in_place` reads has no problem by `Rules::Reading`, and so none by
-- `AnyKeys`.
use Rattle.std.proofs.Common.{sym, ◌∙◌}
use Rattle.amq_protocol_types.specs.parsing.Limits.{RefusesWithin}
use Rattle.amqp_in_place.specs.Refs.{Denotes}
use Rattle.amqp_in_place.proofs.Canonicals.{bytes_all}
use Rattle.amqp_in_place.proofs.ProblemReadings.{none_if_ok}
use Rattle.amqp_in_place.proofs.problems.is_read.Goals as goal

pub returns-in-Reading : goal.returns-in-Reading
returns-in-Reading c = λ ok.
    let s = c.args.bytes.now in
    let l = c.args.limits in
    none_if_ok (RefusesWithin l s) (λ x. x.1.now) (λ x. Denotes x.0) (λ v. v) c.args.rules l s (bytes_all s c.type_inv.bytes) c.in-Reading.is c.read_in_place.result c.read_in_place.ensures.within (sym c.is_ok.ensures.value ∙ ok)
