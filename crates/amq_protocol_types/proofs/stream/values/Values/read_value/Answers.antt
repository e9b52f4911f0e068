-- `Values::read_value`: the bytes of each read join those before, so the result is the outcome of
-- all that is retained. Only the last read may have failed.
use Rattle.std.proofs.Common.{rules, ℕ, refl}
use Rattle.amq_protocol_types.specs.stream.Readers.{kept}
use Rattle.amq_protocol_types.specs.stream.Sources.SourceReaches.{here}
use Rattle.amq_protocol_types.proofs.SourceReads.{reaches_on, kept_by, kept_error, filled_waits, joined, reads_outcome}
use Rattle.amq_protocol_types.proofs.stream.values.Values.read_value.Goals as goal

pub invariant_of-self-in-Lacks-clause-waiting : goal.invariant_of-self-in-Lacks-clause-waiting
invariant_of-self-in-Lacks-clause-waiting g c =
    let r = c.reads.self in
    filled_waits g.R.Source c.reads.reader c.fill_from.new.reader r.limits.frame c.in-Lacks.n (kept r) c.fill_from.new.self c.fill_from.result _ _ r.waiting (search rules) (search rules) c.fill_from.ensures.ok c.fill_from.ensures.err

pub returns-then-branch-eq0-clause-outcome : goal.returns-then-branch-eq0-clause-outcome
returns-then-branch-eq0-clause-outcome g c =
    let last = c.fill_from.new.reader in
    let fill = c.in_ok-fill_from-in-Lacks.ensures in
    let came = joined g.R.Source c.args.reader.now c.reads.reader last _ _ (kept c.args.self.now) (kept c.reads.self) c.fill_from.new.self c.reads.invariant.0 fill.ok in
    reads_outcome g.R.Source c.args.self.now c.args.reader.now last _ c.fill_from.new.self c.result_at_end.result c.result_at_end.new.self
    c.reads.invariant.2 came (c.result_at_end.ensures.outcome (g.R.Source.remaining last) (fill.end c.if-branch-eq0.true))

pub returns-in-Whole-clause-outcome : goal.returns-in-Whole-clause-outcome
returns-in-Whole-clause-outcome g c =
    reads_outcome g.R.Source c.args.self.now c.args.reader.now c.reads.reader _ (kept c.reads.self) c.whole.result c.whole.new.self
    c.reads.invariant.2 c.reads.invariant.0 (c.whole.ensures.outcome (g.R.Source.remaining c.reads.reader))

pub reads-init : goal.reads-init
reads-init g c = (search rules, c.requires.not_failed, refl, here c.args.reader.now)

pub reads-preserved : goal.reads-preserved
reads-preserved g c =
    let fill = c.in_ok-fill_from-in-Lacks.ensures in (
      joined g.R.Source c.args.reader.now c.reads.reader c.fill_from.new.reader _ _ (kept c.args.self.now) (kept c.reads.self) c.fill_from.new.self c.reads.invariant.0 fill.ok,
      c.reads.invariant.1,
      c.reads.invariant.2,
      reaches_on g.R.Source.goes c.args.reader.now c.reads.reader c.fill_from.new.reader c.reads.invariant.3 fill.kind,
    )

pub returns-in_err-fill_from-in-Lacks-clause-kind : goal.returns-in_err-fill_from-in-Lacks-clause-kind
returns-in_err-fill_from-in-Lacks-clause-kind g c =
    kept_error ℕ g.R.Source.goes g.R.Source.fails c.args.reader.now c.reads.reader c.fill_from.new.reader c.in_err-fill_from-in-Lacks.field-0.0 c.from_residual.result
    c.reads.invariant.3 c.in_err-fill_from-in-Lacks.ensures.kind (search rules)

pub returns-then-branch-eq0-clause-kind : goal.returns-then-branch-eq0-clause-kind
returns-then-branch-eq0-clause-kind g c =
    kept_by g.R.Source.goes g.R.Source.fails c.args.reader.now c.fill_from.new.reader c.result_at_end.result c.result_at_end.ensures.no_read
    (reaches_on g.R.Source.goes c.args.reader.now c.reads.reader c.fill_from.new.reader c.reads.invariant.3 c.in_ok-fill_from-in-Lacks.ensures.kind)
