-- Of the loop in `write_out`: all but the bytes that are left was written, with no error of the
-- sink.
use Rattle.std.proofs.Common.{length}
use Rattle.amq_protocol_types.specs.stream.Sources.{SourceReaches}
use Rattle.amqp_wire.specs.Faults.{SinkAccepts}
use Rattle.amqp_wire.proofs.Output.{IsOutputUpTo}
use Rattle.amqp_wire.proofs.run.write_out.Given as goal

-- all that is gone from the bytes was appended, with no error of the sink
abbrev pub invariant-writes : goal.invariant-writes
invariant-writes g l =
    IsOutputUpTo (g.W.Sink.contents l.initial.writer) (g.W.Sink.contents l.writer) l.fn.bytes l.rest
    × SourceReaches (SinkAccepts g.W.Sink.takes) l.initial.writer l.writer

abbrev pub decreases-writes : goal.decreases-writes
decreases-writes g l = length l.rest
