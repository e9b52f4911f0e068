-- `AMQPValue::eq` is true exactly if the values' trees are equal: `same_tree` decides that.
use Rattle.std.proofs.Common.{sym, ◌∙◌}
use Rattle.amqp_value_core.specs.View.{view}
use Rattle.amqp_value_core.specs.Decided.{tree_decides}
use Rattle.amqp_value_core.proofs.equality.AMQPValuePartialEq.eq.Goals as goal

pub returns-clause-trees : goal.returns-clause-trees
returns-clause-trees c =
    let decides = tree_decides (view c.args.self.now) (view c.args.other.now) in
    (λ e. decides.0 (sym c.same.ensures ∙ e), λ e. c.same.ensures ∙ decides.1 e)
