-- `ValueRef::step`, by the last of equal keys: the last pair's value is the one that the table, as
-- a map, has at the key.
use Rattle.std.proofs.Common.{sym, subst}
use Rattle.amqp_in_place.specs.declared.path.PathStep.{PathStep}
use Rattle.amqp_in_place.specs.declared.refs.ValueRef.{ValueRef}
use Rattle.amqp_in_place.specs.Refs.{Denotes}
use Rattle.amqp_in_place.specs.Walks.{FoundIs}
use Rattle.amqp_in_place.specs.Lookups.{at_step}
use Rattle.amqp_in_place.proofs.Paths.{last_found}
use Rattle.amqp_in_place.proofs.refs.ValueRef.step.Goals as goal

pub returns-in-FieldTable-clause-last : goal.returns-in-FieldTable-clause-last
returns-in-FieldTable-clause-last c = λ is v x.
    let here = subst (λ (r : ValueRef). Denotes r v) c.in-FieldTable.is x in
    let found = last_found c.args.of_equal c.in-Key.key c.in-FieldTable.table c.value_of_pair.result is c.value_of_pair.ensures.value v here in
    subst (λ (s : PathStep). FoundIs (at_step c.args.of_equal s v) c.value_of_pair.result) (sym c.in-Key.is) found
