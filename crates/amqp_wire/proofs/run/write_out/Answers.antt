-- `write_out`: each call writes the first of the bytes that are left (`written_prefix`).
use Rattle.std.proofs.Common.{rules}
use Rattle.amq_protocol_types.specs.stream.Sources.SourceReaches.{here, there}
use Rattle.amqp_wire.proofs.Output.{written_prefix}
use Rattle.amqp_wire.proofs.run.write_out.Goals as goal

pub writes-init : goal.writes-init
writes-init g c = (search rules, here c.args.writer.now)

pub writes-preserved : goal.writes-preserved
writes-preserved g c = (
  written_prefix _ _ _ _ _ _ _ c.writes.invariant.0 c.in_ok-n.ensures.bytes c.split_at.ensures.back,
  there _ _ _ c.writes.invariant.1 (_, c.in_ok-n.ensures.takes),
)
