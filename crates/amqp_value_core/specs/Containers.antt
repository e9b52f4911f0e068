-- `array_view` and `table_view`: the trees of an array's values and of a table's entries. And
-- `NeedsNoAlloc`: which values are stored without an allocation.
use Rattle.std.specs.Prelude.{ℕ, List, map, ◌≡◌, []}
use Rattle.amqp_value_core.specs.declared.types.field_array.FieldArray.{FieldArray}
use Rattle.amqp_value_core.specs.declared.types.field_table.FieldTable.{FieldTable}
use Rattle.amqp_value_core.specs.declared.value.AMQPValue.{AMQPValue}
use Rattle.amqp_value_core.specs.Values.{Trees, trees_of, Entries, entries_of, Tree, scalar, short, long, octets, array, table, no_trees, no_entries}
use Rattle.amqp_value_core.specs.View.{view}

-- the values of an array, in order
abbrev pub array_items : FieldArray → List AMQPValue
array_items a = a.items.items

-- the trees of some values
abbrev pub trees : List AMQPValue → Trees
trees vs = trees_of (map view vs)

-- the trees of an array's values
abbrev pub array_view : FieldArray → Trees
array_view a = trees (array_items a)

-- the entries of a table: keys and values, in the order of the keys' bytes
abbrev pub table_entries : FieldTable → List (List ℕ × AMQPValue)
table_entries t = t.map.entries

-- the trees of some entries' values, with their keys
abbrev pub entries : List (List ℕ × AMQPValue) → Entries
entries es = entries_of (map (λ e. (e.0, view e.1)) es)

-- the trees of a table's values, with their keys
abbrev pub table_view : FieldTable → Entries
table_view t = entries (table_entries t)

module _ {K : Type 0} (text : K → List ℕ) where
  -- the strings that name some entries
  abbrev pub names : List (K × AMQPValue) → List (List ℕ)
  names es = map (λ e. text e.0) es

  -- the entries, each at its string
  abbrev pub named : List (K × AMQPValue) → List (List ℕ × AMQPValue)
  named es = map (λ e. (text e.0, e.1)) es

-- v is stored without an allocation: it has a fixed width, or it is empty
abbrev pub NeedsNoAlloc : Tree → Type 0
NeedsNoAlloc (scalar x) = Unit {0}
NeedsNoAlloc (short s) = s ≡ []
NeedsNoAlloc (long s) = s ≡ []
NeedsNoAlloc (octets s) = s ≡ []
NeedsNoAlloc (array vs) = vs ≡ no_trees
NeedsNoAlloc (table es) = es ≡ no_entries
