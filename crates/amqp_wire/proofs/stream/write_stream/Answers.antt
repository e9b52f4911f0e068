-- `write_stream`: each line is the first of those that are left, so it keeps `Progress`
-- (`on_more`), and after the last line or the last value all of `stream_text` is written.
use Rattle.std.proofs.Common.{◌≡◌, ℕ, Bool, ◌-◌, true, false, subst, ◌∙◌, rules, arith}
use Rattle.std.specs.Option.{IfSome}
use Rattle.std.specs.Io.KnownBytes.{Appends}
use Rattle.amqp_value_core.specs.Bytes.{IsBytes}
use Rattle.amq_protocol_types.specs.stream.Sources.SourceReaches.{here}
use Rattle.amq_protocol_types.proofs.SourceReads.{reaches_on}
use Rattle.amqp_wire.proofs.Faults.{ends_read, ends_write}
use Rattle.amqp_wire.specs.Lines.{AppendsTextPrefix}
use Rattle.amqp_wire.specs.Streams.{stream_text}
use Rattle.amqp_wire.proofs.Streams.{Progress, LineIs, on_err, on_last, on_last_left, on_end_left, on_more}
use Rattle.amqp_wire.proofs.stream.write_stream.Goals as goal

pub returns-in_err-write_out-clause-err : goal.returns-in_err-write_out-clause-err
returns-in_err-write_out-clause-err g c =
    let held = g.R.Source.remaining c.args.reader.now in
    let now = g.R.Source.remaining c.values.reader in
    let new = g.R.Source.remaining c.next_line.new.reader in
    let a = g.W.Sink.contents c.args.writer.now in
    let b = g.W.Sink.contents c.values.writer in
    let d = g.W.Sink.contents c.write_out.new.writer in
    let line = c.in_ok-line.line.items in
    let reported = subst (λ l. LineIs l now new line c.in_ok-line.is_value) c.values.invariant.2 c.in_ok-line.ensures.line in
    let prefix : AppendsTextPrefix b d line = search rules in
    let t : IfSome held (λ s. IsBytes s → AppendsTextPrefix a d (stream_text c.args.limits c.args.most s)) =
    on_err c.args.limits c.args.most c.values.left held now new a b d line c.in_ok-line.is_value (omega arith) c.values.invariant.3 reported prefix in
    search rules

pub returns-then-not-is_value-clause-ok : goal.returns-then-not-is_value-clause-ok
returns-then-not-is_value-clause-ok g c =
    let held = g.R.Source.remaining c.args.reader.now in
    let now = g.R.Source.remaining c.values.reader in
    let new = g.R.Source.remaining c.next_line.new.reader in
    let a = g.W.Sink.contents c.args.writer.now in
    let b = g.W.Sink.contents c.values.writer in
    let d = g.W.Sink.contents c.write_out.new.writer in
    let line = c.in_ok-line.line.items in
    let reported = subst (λ l. LineIs l now new line c.in_ok-line.is_value) c.values.invariant.2 c.in_ok-line.ensures.line in
    let last : c.in_ok-line.is_value ≡ false = search rules in
    let all : Appends b d line = search rules in
    on_last c.args.limits c.args.most c.values.left held now new a b d line (omega arith) c.values.invariant.3
    (subst (λ (t : Bool). LineIs c.args.limits now new line t) last reported) all

pub returns-then-not-is_value-clause-rest : goal.returns-then-not-is_value-clause-rest
returns-then-not-is_value-clause-rest g c =
    let held = g.R.Source.remaining c.args.reader.now in
    let now = g.R.Source.remaining c.values.reader in
    let new = g.R.Source.remaining c.next_line.new.reader in
    let a = g.W.Sink.contents c.args.writer.now in
    let b = g.W.Sink.contents c.values.writer in
    let d = g.W.Sink.contents c.write_out.new.writer in
    let line = c.in_ok-line.line.items in
    let reported = subst (λ l. LineIs l now new line c.in_ok-line.is_value) c.values.invariant.2 c.in_ok-line.ensures.line in
    let last : c.in_ok-line.is_value ≡ false = search rules in
    on_last_left c.args.limits c.args.most c.values.left held now new _ a b line (omega arith) c.values.invariant.3
    (subst (λ (t : Bool). LineIs c.args.limits now new line t) last reported)

pub returns-clause-rest : goal.returns-clause-rest
returns-clause-rest g c =
    let held = g.R.Source.remaining c.args.reader.now in
    let now = g.R.Source.remaining c.values.reader in
    let a = g.W.Sink.contents c.args.writer.now in
    let b = g.W.Sink.contents c.values.writer in
    let none : c.values.left ≡ 0 = omega arith in
    on_end_left c.args.limits c.args.most held now a b (subst (λ (n : ℕ). Progress c.args.limits c.args.most n held now a b) none c.values.invariant.3)

pub values-preserved : goal.values-preserved
values-preserved g c =
    let held = g.R.Source.remaining c.args.reader.now in
    let now = g.R.Source.remaining c.values.reader in
    let new = g.R.Source.remaining c.next_line.new.reader in
    let a = g.W.Sink.contents c.args.writer.now in
    let b = g.W.Sink.contents c.values.writer in
    let d = g.W.Sink.contents c.write_out.new.writer in
    let line = c.in_ok-line.line.items in
    let reported = subst (λ l. LineIs l now new line c.in_ok-line.is_value) c.values.invariant.2 c.in_ok-line.ensures.line in
    let one : c.in_ok-line.is_value ≡ true = search rules in
    let all : Appends b d line = search rules in
    let more = c.in_ok-line.ensures.more one in (
      more.0,
      more.1,
      c.next_line.ensures.limits ∙ c.values.invariant.2,
      on_more c.args.limits c.args.most c.values.left (c.values.left - 1) held now new a b d line (omega arith) c.values.invariant.3
          (subst (λ (t : Bool). LineIs c.args.limits now new line t) one reported) all,
      reaches_on _ _ _ _ c.values.invariant.4 c.in_ok-line.ensures.ends,
      reaches_on _ _ _ _ c.values.invariant.5 c.in_ok-write_out.ensures.ends,
    )

pub values-init : goal.values-init
values-init g c = (c.new-values.ensures.kept, c.new-values.ensures.not_failed, c.new-values.ensures.limits, search rules, here c.args.reader.now, here c.args.writer.now)

pub returns-in_err-line-clause-ends : goal.returns-in_err-line-clause-ends
returns-in_err-line-clause-ends g c =
    ends_read g.R.Source.goes g.R.Source.fails g.W.Sink.takes g.W.Sink.fails c.args.reader.now c.values.reader c.next_line.new.reader c.args.writer.now c.values.writer c.in_err-line.field-0.0 c.from_residual.result
    c.values.invariant.4 c.in_err-line.ensures.ends c.values.invariant.5 (search rules)

pub returns-in_err-write_out-clause-ends : goal.returns-in_err-write_out-clause-ends
returns-in_err-write_out-clause-ends g c =
    ends_write g.R.Source.goes g.R.Source.fails g.W.Sink.takes g.W.Sink.fails c.args.reader.now c.next_line.new.reader c.args.writer.now c.values.writer c.write_out.new.writer c.in_err-write_out.field-0.0 c.from_residual-in_err-write_out.result
    (reaches_on _ _ _ _ c.values.invariant.4 c.in_ok-line.ensures.ends) c.values.invariant.5 c.in_err-write_out.ensures.ends (search rules)

pub returns-then-not-is_value-clause-ends : goal.returns-then-not-is_value-clause-ends
returns-then-not-is_value-clause-ends g c =
    (reaches_on _ _ _ _ c.values.invariant.4 c.in_ok-line.ensures.ends, reaches_on _ _ _ _ c.values.invariant.5 c.in_ok-write_out.ensures.ends)
