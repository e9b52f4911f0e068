-- Of the loop in `count_values`: as many values were read as are counted (`HasRead`: the limits, that
-- the reader hasn't failed, and the bytes that were read).
use Rattle.std.proofs.Common.{◌≡◌, List, length}
use Rattle.amqp_value_core.specs.Values.{Tree}
use Rattle.amq_protocol_types.specs.stream.Readers.{values_of, reader_of}
use Rattle.amq_protocol_types.specs.stream.ReadSoFar.{HasRead}
use Rattle.examples.proofs.count.count_values.Given as goal

abbrev pub invariant-values : goal.invariant-values
invariant-values g l =
    (vs : List Tree)
    × HasRead l.fn.limits (g.R.Read.remaining l.fn.stream) vs (values_of l.reader) (g.R.Read.remaining (reader_of l.reader))
    × (length vs ≡ l.count)
