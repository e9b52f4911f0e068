-- `LentOrKept`: `FieldTable::insert` returns a borrow of its table, or an error, and then the table
-- has the entries that it had.
use Rattle.std.specs.Prelude.{◌≡◌, Result, Ok, Err}
use Rattle.std.specs.Borrow.{Fml, MutBor, RestsIfErr}
use Rattle.amqp_value_core.specs.declared.types.field_table.FieldTable.{FieldTable}
use Rattle.amqp_value_core.specs.declared.types.field_table.Lent.{Lent}
use Rattle.amqp_value_core.specs.contracts.types.field_table.FieldTable.{the_row}
use Rattle.amqp_value_core.specs.Containers.{table_view}

module _ (s : MutBor FieldTable) {E : Type 0} where
  -- s is lent in r; at `Err` it keeps its entries
  abbrev pub LentOrKept : Result (MutBor FieldTable) E → Fml
  LentOrKept r = RestsIfErr the_row s (λ t. t.ghost_name) r (λ last. table_view last ≡ table_view s.now)

  -- s is lent in the struct in r; at `Err` it keeps its entries
  abbrev pub LentOrKeptIn : Result Lent E → Fml
  LentOrKeptIn r = RestsIfErr the_row s (λ h. h.table.ghost_name) r (λ last. table_view last ≡ table_view s.now)

-- what was lent, out of its struct
abbrev pub bare_of : {E : Type 0} → Result Lent E → Result (MutBor FieldTable) E
bare_of (Ok h) = Ok h.table
bare_of (Err e) = Err e
