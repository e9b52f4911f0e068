-- `FieldTable::eq` is true exactly if the tables' entries are equal: `same_entries` decides that.
use Rattle.std.proofs.Common.{◌≡◌, sym, ◌∙◌, rules}
use Rattle.amqp_value_core.specs.Containers.{table_view}
use Rattle.amqp_value_core.specs.Equality.{same_entries}
use Rattle.amqp_value_core.specs.Decided.{entries_decide}
use Rattle.amqp_value_core.proofs.equality.FieldTablePartialEq.eq.Goals as goal

pub returns-clause-trees : goal.returns-clause-trees
returns-clause-trees c =
    let a = table_view c.args.self.now in
    let b = table_view c.args.other.now in
    let test : c.same_pairs.result ≡ same_entries a b = search rules in
    let decides = entries_decide a b in
    (λ e. decides.0 (sym test ∙ e), λ e. test ∙ decides.1 e)
