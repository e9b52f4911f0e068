-- Of the loop in `read_all`: the bytes are all that came, and no call failed but those that were
-- interrupted.
use Rattle.std.proofs.Common.{◌-◌, ◌^◌, vec_len}
use Rattle.std.specs.Io.KnownBytes.{Consumes}
use Rattle.amq_protocol_types.specs.stream.Sources.{SourceReaches}
use Rattle.amqp_wire.specs.Faults.{SourceContinues}
use Rattle.amqp_wire.proofs.read.read_all.Given as goal

-- the bytes are all that came, with no error but of calls that were interrupted
abbrev pub invariant-reads : goal.invariant-reads
invariant-reads g l =
    Consumes (g.R.Source.remaining l.initial.reader) (g.R.Source.remaining l.reader) l.bytes.items
    × SourceReaches (SourceContinues g.R.Source.goes g.R.Source.fails) l.initial.reader l.reader

abbrev pub decreases-reads : goal.decreases-reads
decreases-reads g l = 2 ^ 63 - vec_len l.bytes
