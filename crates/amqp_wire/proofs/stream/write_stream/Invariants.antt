-- Of the loop in `write_stream`: all but the lines of what is left was written (`Progress`), with
-- no error of the source or the sink.
use Rattle.std.proofs.Common.{◌≡◌, [], false}
use Rattle.amq_protocol_types.specs.stream.Readers.{kept, has_failed, limits_of}
use Rattle.amq_protocol_types.specs.stream.Sources.{SourceReaches}
use Rattle.amqp_wire.specs.Faults.{SinkAccepts}
use Rattle.amqp_wire.proofs.Streams.{Progress}
use Rattle.amqp_wire.proofs.stream.write_stream.Given as goal

-- all but the lines of what is left was written, with no error of the source or the sink
abbrev pub invariant-values : goal.invariant-values
invariant-values g l =
    (kept l.values ≡ [])
    × (has_failed l.values ≡ false)
    × (limits_of l.values ≡ l.fn.limits)
    × Progress l.fn.limits l.fn.most l.left (g.R.Source.remaining l.initial.reader) (g.R.Source.remaining l.reader) (g.W.Sink.contents l.initial.writer) (g.W.Sink.contents l.writer)
    × SourceReaches g.R.Source.goes l.initial.reader l.reader
    × SourceReaches (SinkAccepts g.W.Sink.takes) l.initial.writer l.writer

abbrev pub decreases-values : goal.decreases-values
decreases-values g l = l.left
