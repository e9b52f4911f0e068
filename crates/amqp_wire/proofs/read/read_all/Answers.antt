-- `read_all` has all bytes, since each block is appended to what came before. If a block fails, it
-- ends with that fault (`ends_part`).
use Rattle.std.proofs.Common.{rules, subst, sym}
use Rattle.std.specs.Io.KnownBytes.{Consumes}
use Rattle.std.proofs.KnownBytes.{Consumes-nil}
use Rattle.amq_protocol_types.specs.stream.Sources.SourceReaches.{here}
use Rattle.amq_protocol_types.proofs.SourceReads.{reaches_on}
use Rattle.amqp_wire.specs.Faults.{SourceContinues}
use Rattle.amqp_wire.proofs.Faults.{ends_part, consumed_more}
use Rattle.amqp_wire.proofs.read.read_all.Goals as goal

pub reads-init : goal.reads-init
reads-init g c = (subst (Consumes _ _) (sym c.new-bytes.ensures.items) (Consumes-nil _), here c.args.reader.now)

pub reads-preserved : goal.reads-preserved
reads-preserved g c =
    let (more, len, is, came) = c.in_ok-read_block.ensures.ok in
    (consumed_more _ _ _ _ more _ c.reads.invariant.0 came is, reaches_on _ _ _ _ c.reads.invariant.1 c.in_ok-read_block.ensures.ends)

pub returns-then-branch-eq0-clause-ends : goal.returns-then-branch-eq0-clause-ends
returns-then-branch-eq0-clause-ends g c = reaches_on _ _ _ _ c.reads.invariant.1 c.in_ok-read_block.ensures.ends

pub returns-in_err-read_block-clause-ends : goal.returns-in_err-read_block-clause-ends
returns-in_err-read_block-clause-ends g c =
    ends_part (SourceContinues g.R.Source.goes g.R.Source.fails) g.R.Source.fails c.args.reader.now c.reads.reader c.read_block.new.reader c.in_err-read_block.field-0.0 c.from_residual.result
    c.reads.invariant.1 c.in_err-read_block.ensures.ends (search rules)
