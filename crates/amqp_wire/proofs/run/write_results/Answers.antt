-- `write_results`: the results that are left begin with the next line's (`first_result`), so
-- writing it, or a part of it, writes a longer prefix of the output.
use Rattle.std.proofs.Common.{◌∙◌, rules}
use Rattle.amq_protocol_types.specs.stream.Sources.SourceReaches.{here}
use Rattle.amq_protocol_types.proofs.SourceReads.{reaches_on}
use Rattle.amqp_wire.proofs.Faults.{results_end}
use Rattle.amqp_wire.specs.Lines.{said_in}
use Rattle.amqp_wire.proofs.Output.{written_more, written_part, first_result}
use Rattle.amqp_wire.proofs.run.write_results.Goals as goal

pub returns-in_err-write_out-clause-err : goal.returns-in_err-write_out-clause-err
returns-in_err-write_out-clause-err g c =
    let first = first_result (said_in c.args.form) _ _ _ _ c.in-Some.ensures.steps (c.as_slice.ensures.value ∙ c.in_ok-printed.ensures) in
    let part = written_part _ _ _ _ _ _ _ c.loop-line.invariant.0 first c.in_err-write_out.ensures.err in
    search rules

pub loop-line-preserved : goal.loop-line-preserved
loop-line-preserved g c =
    let first = first_result (said_in c.args.form) _ _ _ _ c.in-Some.ensures.steps (c.as_slice.ensures.value ∙ c.in_ok-printed.ensures) in
    (written_more _ _ _ _ _ _ _ c.loop-line.invariant.0 first c.in_ok-write_out.ensures.ok, tt, tt, reaches_on _ _ _ _ c.loop-line.invariant.3 c.in_ok-write_out.ensures.ends)

pub loop-line-init : goal.loop-line-init
loop-line-init g c = (search rules, tt, tt, here c.args.writer.now)

pub returns-in_err-write_out-clause-ends : goal.returns-in_err-write_out-clause-ends
returns-in_err-write_out-clause-ends g c =
    results_end g.W.Sink.takes g.W.Sink.fails c.args.writer.now c.loop-line.writer c.write_out.new.writer c.in_err-write_out.field-0.0 c.from_residual-in_err-write_out.result
    c.loop-line.invariant.3 c.in_err-write_out.ensures.ends (search rules)
