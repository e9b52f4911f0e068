-- Of the loop in `write_results`: all but the results of the lines that are left was written, with
-- no error of the sink.
use Rattle.amqp_wire.specs.Lines.{said_in, lines_by, output_by}
use Rattle.amq_protocol_types.specs.stream.Sources.{SourceReaches}
use Rattle.amqp_wire.specs.Faults.{SinkAccepts}
use Rattle.amqp_wire.proofs.Output.{IsOutputUpTo}
use Rattle.amqp_wire.proofs.run.write_results.Given as goal

-- all but the results of the lines that are left was appended, with no error of the sink
abbrev pub invariant-loop-line : goal.invariant-loop-line
invariant-loop-line g l =
    IsOutputUpTo (g.W.Sink.contents l.initial.writer) (g.W.Sink.contents l.writer) (output_by (said_in l.fn.form) l.fn.input) (lines_by (said_in l.fn.form) l.line-iterator)
    × (goal.iterator-loop-line g).can_next l.line-iterator
    × (goal.iterator-loop-line g).is_finite l.line-iterator
    × SourceReaches (SinkAccepts g.W.Sink.takes) l.initial.writer l.writer
