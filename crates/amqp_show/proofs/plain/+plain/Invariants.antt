-- Of the loops in `write_array` and `write_table`: once the others are written too, all are. A call has a shorter body than
-- its caller.
use Rattle.std.proofs.Common.{◌≡◌, ◌+◌, ◌*◌, ◌≤◌, length}
use Rattle.amqp_value_core.specs.Values.{Trees, Entries}
use Rattle.amqp_in_place.specs.Refs.{array_body, table_body}
use Rattle.amqp_in_place.specs.Suffix.{values_left, pairs_left}
use Rattle.amqp_in_place.specs.Written.{WrittenValues, WrittenPairs}
use Rattle.amqp_json.specs.printing.Buffers.{body_len}
use Rattle.amqp_show.proofs.WritingPlain.{Awaits, AwaitsPairs}
use Rattle.amqp_show.proofs.plain.+plain.Given as goal

-- a call has a shorter body than its caller, or as long a one and less to do
abbrev pub decreases-write_value : goal.decreases-write_value
decreases-write_value l = 4 * body_len l.value + 2

abbrev pub decreases-write_array : goal.decreases-write_array
decreases-write_array l = 4 * length (array_body l.array)

abbrev pub decreases-write_table : goal.decreases-write_table
decreases-write_table l = 4 * length (table_body l.table)

abbrev pub invariant-write_array-loop-item : goal.invariant-write_array-loop-item
invariant-write_array-loop-item l =
    (length (values_left l.item-iterator) ≤ length (array_body l.fn.array)) × (l.writer.before ≡ l.fn.writer.before)
    × ((all : Trees) → WrittenValues (array_body l.fn.array) all → (rest : Trees) × WrittenValues (values_left l.item-iterator) rest × Awaits all l.fn.writer.tokens l.writer.tokens rest)

abbrev pub invariant-write_table-loop-key : goal.invariant-write_table-loop-key
invariant-write_table-loop-key l =
    (length (pairs_left l.key-iterator) ≤ length (table_body l.fn.table)) × (l.writer.before ≡ l.fn.writer.before)
    × ((all : Entries) → WrittenPairs (table_body l.fn.table) all → (rest : Entries) × WrittenPairs (pairs_left l.key-iterator) rest × AwaitsPairs all l.fn.writer.tokens l.writer.tokens rest)
