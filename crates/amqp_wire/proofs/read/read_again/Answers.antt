-- `read_again`: a call that was interrupted takes no byte, and by `SourceContinues` another may
-- follow it, as one may follow a call that returned no error.
use Rattle.std.proofs.Common.{◌≡◌, inl, inr, rules, subst}
use Rattle.std.proofs.KnownBytes.{Keeps-refl, Keeps-trans}
use Rattle.std.specs.IoError.{error_kind}
use Rattle.std.specs.declared.io.ErrorKind.TheVariants as kind
use Rattle.amq_protocol_types.specs.stream.Sources.SourceReaches.{here, there}
use Rattle.amqp_wire.proofs.Faults.{goes_on}
use Rattle.amqp_wire.proofs.read.read_again.Goals as goal

pub calls-init : goal.calls-init
calls-init g c = (Keeps-refl _, here c.args.reader.now)

pub calls-preserved : goal.calls-preserved
calls-preserved g c =
    let is : error_kind c.in-Err.error ≡ kind.Interrupted = search rules in
    let failed = subst (λ k. g.R.Source.fails c.calls.reader k c.read_some.new.self) is c.in-Err.ensures.fails in
    (Keeps-trans _ _ _ c.calls.invariant.0 c.in-Err.ensures.bytes, there _ _ _ c.calls.invariant.1 (inr failed))

pub returns-in-Ok-clause-goes : goal.returns-in-Ok-clause-goes
returns-in-Ok-clause-goes g c = there _ _ _ c.calls.invariant.1 (inl c.in-Ok.ensures.goes)

pub returns-clause-goes : goal.returns-clause-goes
returns-clause-goes g c = goes_on g.R.Source.goes g.R.Source.fails c.args.reader.now c.calls.reader _ _ c.calls.invariant.1 c.read_some-2.ensures.goes
