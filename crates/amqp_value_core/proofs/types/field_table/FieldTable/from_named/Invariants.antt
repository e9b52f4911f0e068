-- Of the loop in `FieldTable::from_named`: inserting the pairs that are left makes the table of
-- all, and the first key that is too long is the same among them as among all.
use Rattle.std.proofs.Common.{◌≡◌, ◌≤◌, length}
use Rattle.amqp_value_core.specs.Values.{no_entries}
use Rattle.amqp_value_core.specs.Maps.{insert_all}
use Rattle.amqp_value_core.specs.Containers.{entries, named, names, table_view}
use Rattle.amqp_value_core.specs.Short.{first_too_long}
use Rattle.amqp_value_core.proofs.types.field_table.FieldTable.from_named.Given as goal

-- what is left decides
abbrev pub invariant-loop-name : goal.invariant-loop-name
invariant-loop-name g l = record {
  decides : insert_all (table_view l.table) (entries (named g.K.AsStr.text l.name-iterator.rest.items)) ≡ insert_all no_entries (entries (named g.K.AsStr.text l.fn.pairs.items));
  fits : first_too_long (names g.K.AsStr.text l.name-iterator.rest.items) ≡ first_too_long (names g.K.AsStr.text l.fn.pairs.items);
  left : length l.name-iterator.rest.items ≤ length l.fn.pairs.items;
}
