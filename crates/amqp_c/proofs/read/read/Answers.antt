-- `read` returns the entry if there is no problem: the bytes then hold all that the header counts,
-- so `peek` has not failed.
use Rattle.std.proofs.Common.{refl, sym, ◌∙◌, subst}
use Rattle.std.specs.Option.{IfSome}
use Rattle.amqp_in_place.specs.declared.problems.Rules.{Rules}
use Rattle.amqp_in_place.specs.ProblemResults.{FailsAt}
use Rattle.amqp_c.specs.Inputs.{limits, encoding, first_problem}
use Rattle.amqp_c.proofs.Reading.{has_entry, value_read}
use Rattle.amqp_c.proofs.read.read.Goals as goal

pub unreachable-requires : goal.unreachable-requires
unreachable-requires c = has_entry c.args.rules c.args.input.now c.in-Err._fault (sym c.read_error.ensures.first ∙ c.in_default.is) c.in-Err.ensures

pub returns-clause-value : goal.returns-clause-value
returns-clause-value c = λ is. value_read c.args.input.now c.in-Ok.entry c.in-Ok.ensures ((c.in_default.ensures.read is).0 refl)

pub returns-in-Some-clause-grammar : goal.returns-in-Some-clause-grammar
returns-in-Some-clause-grammar c = λ is.
    let input = c.args.input.now in
    subst (λ (r : Rules). IfSome (first_problem r input) (λ p. FailsAt (limits input) (encoding input) p.offset p.kind)) is (c.read_error.ensures.fails is)

pub returns-clause-grammar : goal.returns-clause-grammar
returns-clause-grammar c = λ is.
    let input = c.args.input.now in
    subst (λ (r : Rules). IfSome (first_problem r input) (λ p. FailsAt (limits input) (encoding input) p.offset p.kind)) is (c.read_error.ensures.fails is)
