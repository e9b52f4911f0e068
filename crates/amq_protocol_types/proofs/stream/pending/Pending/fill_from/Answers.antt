-- `Pending::fill_from`: the bytes of one read follow those that were retained. Growing the buffer
-- leaves these as they were, and so does an error.
use Rattle.std.proofs.Common.{take, drop, sym, subst, arith, rules}
use Rattle.amq_protocol_types.proofs.SourceReads.{length_after, still_kept, read_on, kept_by}
use Rattle.amq_protocol_types.specs.stream.Sources.SourceReaches.{here, there}
use Rattle.amq_protocol_types.proofs.stream.pending.Pending.fill_from.Goals as goal

pub returns-in-Ok-clause-ok : goal.returns-in-Ok-clause-ok
returns-in-Ok-clause-ok g c =
    let k = c.self.inside.count in
    let n = c.in-Ok.n in
    let new = c.read_into.new.buffer.items in
    let kept = still_kept k c.args.self.now c.self.inside.buffer.items c.make_room.new.buffer.items new c.self.view_is c.make_room.ensures.same c.read_into.ensures.prefix in
    let fits = c.in-Ok.ensures.fits in
    let space = c.in_ok-space.ensures.space in
    record {
      bytes = take n (drop k new);
      count = length_after k n new (omega (arith, fits, space.2, c.read_into.ensures.length));
      bounded = omega (arith, fits, space.1);
      retained = read_on k n c.args.self.now new kept;
      given = c.in-Ok.ensures.ok;
    }

pub returns-in-Err-clause-err : goal.returns-in-Err-clause-err
returns-in-Err-clause-err g c =
    let kept = still_kept c.self.inside.count c.args.self.now c.self.inside.buffer.items c.make_room.new.buffer.items c.read_into.new.buffer.items c.self.view_is c.make_room.ensures.same c.read_into.ensures.prefix in
    (tt, kept, c.in-Err.ensures.err)

pub returns-in_err-space-clause-kind : goal.returns-in_err-space-clause-kind
returns-in_err-space-clause-kind g c =
    kept_by g.R.Source.goes g.R.Source.fails c.args.reader.now c.args.reader.now c.from_residual.result (search rules) (here c.args.reader.now)

pub returns-in-Ok-clause-kind : goal.returns-in-Ok-clause-kind
returns-in-Ok-clause-kind g c = there _ _ _ (here c.args.reader.now) c.in-Ok.ensures.goes

pub returns-in-Err-clause-kind : goal.returns-in-Err-clause-kind
returns-in-Err-clause-kind g c =
    (c.args.reader.now, here c.args.reader.now, subst (λ k. g.R.Source.fails c.args.reader.now k c.read_into.new.reader) (sym c.kind.ensures) c.in-Err.ensures.fails)
