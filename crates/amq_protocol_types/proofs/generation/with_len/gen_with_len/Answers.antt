-- `gen_with_len`: four reserved bytes are filled with the length of what the closure appended, or
-- all is taken back. `o` shows that the call of f only appended.
use Rattle.std.proofs.Common.{refl, inl, inr, arith}
use Rattle.amq_protocol_types.proofs.Lengths.{refusal_appends, taken_back, put_with_length, too_long, all_back, length_appends, after}
use Rattle.amq_protocol_types.proofs.generation.with_len.gen_with_len.Goals as goal

pub back_to-requires : goal.back_to-requires
back_to-requires g c =
    let whole = g.met.W.BackToTheBuffer.whole in
    let o = c.requires.appends _ _ _ (record { shown = _; shows = refl; left = _; met = c.in-Err.ensures; leaves = refl }) in
    omega (arith, c.in_ok-at.ensures.place, c.in_ok-at.ensures.written.wrote.moved, after (whole _) (whole _) o)

pub returns-in-Err-clause-err : goal.returns-in-Err-clause-err
returns-in-Err-clause-err g c =
    inr (inl (record {
      before = _;
      after = _;
      reserved = record { zeros = c.in_ok-at.ensures.written; start = c.in_ok-at.ensures.start };
      called = record { shown = _; shows = refl; left = _; met = c.in-Err.ensures; leaves = refl };
      start = c.back_to.ensures.start;
    }))

pub returns-in-Err-clause-kept : goal.returns-in-Err-clause-kept
returns-in-Err-clause-kept g c =
    let o = c.requires.appends _ _ _ (record { shown = _; shows = refl; left = _; met = c.in-Err.ensures; leaves = refl }) in
    taken_back _ c.in_ok-at.ensures.place c.in_ok-at.ensures.whole c.in_ok-at.ensures.written o c.back_to.ensures.back

pub returns-in-Err-clause-only : goal.returns-in-Err-clause-only
returns-in-Err-clause-only g c =
    let o = c.requires.appends _ _ _ (record { shown = _; shows = refl; left = _; met = c.in-Err.ensures; leaves = refl }) in
    refusal_appends (taken_back _ c.in_ok-at.ensures.place c.in_ok-at.ensures.whole c.in_ok-at.ensures.written o c.back_to.ensures.back)

pub fill_length-requires : goal.fill_length-requires
fill_length-requires g c =
    let whole = g.met.W.BackToTheBuffer.whole in
    let o = c.requires.appends _ _ _ (record { shown = _; shows = refl; left = _; met = c.in_default.ensures; leaves = refl }) in
    omega (arith, c.in_ok-at.ensures.place, c.in_ok-at.ensures.written.wrote.moved, after (whole _) (whole _) o)

pub returns-clause-ok : goal.returns-clause-ok
returns-clause-ok g c =
    put_with_length _ _ _ _ _ c.fill_length.new.x _ c.in_ok-at.ensures.place c.in_ok-at.ensures.whole (g.met.W.BackToTheBuffer.whole _) (record { zeros = c.in_ok-at.ensures.written; start = c.in_ok-at.ensures.start }) c.requires.appends (record { shown = _; shows = refl; left = _; met = c.in_default.ensures; leaves = refl }) _ c.fill_length.ensures.filled c.fill_length.ensures.start

pub returns-clause-err : goal.returns-clause-err
returns-clause-err g c =
    too_long _ _ _ _ _ c.fill_length.new.x _ c.in_ok-at.ensures.place c.in_ok-at.ensures.whole (g.met.W.BackToTheBuffer.whole _) (record { zeros = c.in_ok-at.ensures.written; start = c.in_ok-at.ensures.start }) c.requires.appends (record { shown = _; shows = refl; left = _; met = c.in_default.ensures; leaves = refl }) _ c.fill_length.ensures.filled c.fill_length.ensures.start

pub returns-clause-kept : goal.returns-clause-kept
returns-clause-kept g c =
    all_back g.W.Output.seen _ _ _ _ c.fill_length.new.x _ c.in_ok-at.ensures.place c.in_ok-at.ensures.whole (g.met.W.BackToTheBuffer.whole _) (record { zeros = c.in_ok-at.ensures.written; start = c.in_ok-at.ensures.start }) c.requires.appends (record { shown = _; shows = refl; left = _; met = c.in_default.ensures; leaves = refl }) _ c.fill_length.ensures.filled

pub returns-clause-only : goal.returns-clause-only
returns-clause-only g c =
    length_appends g.W.Output.seen _ _ _ _ c.fill_length.new.x _ c.in_ok-at.ensures.place c.in_ok-at.ensures.whole (g.met.W.BackToTheBuffer.whole _) (record { zeros = c.in_ok-at.ensures.written; start = c.in_ok-at.ensures.start }) c.requires.appends (record { shown = _; shows = refl; left = _; met = c.in_default.ensures; leaves = refl }) _ c.fill_length.ensures.filled
