-- Of the loops in `copy_items` and `copy_entries`: the copy has all values, or entries, that the
-- loop has passed.
use Rattle.std.proofs.Common.{◌≡◌, List, ◌++◌, take, map}
use Rattle.amqp_value_core.specs.View.{view}
use Rattle.amqp_value_core.specs.Containers.{array_items, entries, table_view}
use Rattle.amqp_value_core.proofs.Copies.{StoredPair}
use Rattle.amqp_value_core.proofs.conversions.copies.+copies.Given as goal

-- the values so far are copied
abbrev pub invariant-copy_items-loop-item : goal.invariant-copy_items-loop-item
invariant-copy_items-loop-item l = map view (array_items l.copies) ≡ map view (take l.item-index l.items)

-- the entries so far are copied
abbrev pub invariant-copy_entries-loop-key : goal.invariant-copy_entries-loop-key
invariant-copy_entries-loop-key l =
    (done : List StoredPair) × (l.map.entries ≡ done ++ l.key-iterator) × (table_view l.copies ≡ entries done)
