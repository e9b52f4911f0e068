-- Of the loop in `read_again`: no byte is gone, and each call was interrupted.
use Rattle.std.specs.Io.KnownBytes.{Keeps}
use Rattle.amq_protocol_types.specs.stream.Sources.{SourceReaches}
use Rattle.amqp_wire.specs.Faults.{SourceContinues}
use Rattle.amqp_wire.proofs.read.read_again.Given as goal

-- no byte is gone, and each call was interrupted
abbrev pub invariant-calls : goal.invariant-calls
invariant-calls g l =
    Keeps (g.R.Source.remaining l.initial.reader) (g.R.Source.remaining l.reader)
    × SourceReaches (SourceContinues g.R.Source.goes g.R.Source.fails) l.initial.reader l.reader
