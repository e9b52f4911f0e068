-- `FieldArray::eq` is true exactly if the arrays' trees are equal: `same_trees` decides that.
use Rattle.std.proofs.Common.{◌≡◌, sym, ◌∙◌, rules}
use Rattle.amqp_value_core.specs.Containers.{array_view}
use Rattle.amqp_value_core.specs.Equality.{same_trees}
use Rattle.amqp_value_core.specs.Decided.{trees_decide}
use Rattle.amqp_value_core.proofs.equality.FieldArrayPartialEq.eq.Goals as goal

pub returns-clause-trees : goal.returns-clause-trees
returns-clause-trees c =
    let a = array_view c.args.self.now in
    let b = array_view c.args.other.now in
    let test : c.same_items.result ≡ same_trees a b = search rules in
    let decides = trees_decide a b in
    (λ e. decides.0 (sym test ∙ e), λ e. test ∙ decides.1 e)
