-- Of the loops in `parse_array_body` and `parse_table_body`: the entries so far are those of the
-- bytes that were read. Each call in the cycle `parser` has less to do than its caller.
use Rattle.std.proofs.Common.{length, map, ◌+◌, ◌*◌}
use Rattle.amqp_value_core.specs.View.{view}
use Rattle.amqp_value_core.specs.Containers.{array_items}
use Rattle.amq_protocol_types.specs.parsing.Bodies.{kept}
use Rattle.amq_protocol_types.proofs.ArrayBodies.{ArrayBodyRead}
use Rattle.amq_protocol_types.proofs.TableBodies.{TableBodyRead}
use Rattle.amq_protocol_types.proofs.parsing.values.+parser.Given as goal

-- a call has a shorter input than its caller, or as long a one and less to do
abbrev pub decreases-value_within : goal.decreases-value_within
decreases-value_within g l = 4 * length (g.I.ParsableInput.bytes l.i)

abbrev pub decreases-payload_within : goal.decreases-payload_within
decreases-payload_within g l = 4 * length (g.I.ParsableInput.bytes l.i) + 2

abbrev pub decreases-array_within : goal.decreases-array_within
decreases-array_within g l = 4 * length (g.I.ParsableInput.bytes l.i) + 1

abbrev pub decreases-parse_array_body : goal.decreases-parse_array_body
decreases-parse_array_body g l = 4 * length (g.I.ParsableInput.bytes l.body) + 1

abbrev pub invariant-parse_array_body-entries : goal.invariant-parse_array_body-entries
invariant-parse_array_body-entries g l =
    ArrayBodyRead l.fn.depth (g.I.ParsableInput.bytes l.fn.body) (map view (array_items l.array)) (g.I.ParsableInput.bytes l.rest)

abbrev pub decreases-parse_array_body-entries : goal.decreases-parse_array_body-entries
decreases-parse_array_body-entries g l = length (g.I.ParsableInput.bytes l.rest)

abbrev pub decreases-table_within : goal.decreases-table_within
decreases-table_within g l = 4 * length (g.I.ParsableInput.bytes l.i) + 1

abbrev pub decreases-parse_table_body : goal.decreases-parse_table_body
decreases-parse_table_body g l = 4 * length (g.I.ParsableInput.bytes l.body) + 1

abbrev pub invariant-parse_table_body-pairs : goal.invariant-parse_table_body-pairs
invariant-parse_table_body-pairs g l =
    TableBodyRead l.fn.depth (g.I.ParsableInput.bytes l.fn.body) (kept l.pairs) (g.I.ParsableInput.bytes l.rest)

abbrev pub decreases-parse_table_body-pairs : goal.decreases-parse_table_body-pairs
decreases-parse_table_body-pairs g l = length (g.I.ParsableInput.bytes l.rest)
