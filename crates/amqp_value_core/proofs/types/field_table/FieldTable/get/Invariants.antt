-- Of the loop in `FieldTable::get`: the value at the key is that in the entries that are left.
use Rattle.std.proofs.Common.{◌≡◌}
use Rattle.amqp_value_core.specs.Maps.{value_at}
use Rattle.amqp_value_core.specs.Containers.{entries, table_view}
use Rattle.amqp_value_core.proofs.types.field_table.FieldTable.get.Given as goal

-- what is left decides
abbrev pub invariant-loop-name : goal.invariant-loop-name
invariant-loop-name l = value_at l.key (entries l.name-iterator) ≡ value_at l.key (table_view l.self)
