-- `gen_flags`: the bytes put one by one are `pack` of the flags. A buffer promised capacity for
-- all, so only another output can fail midway.
use Rattle.std.proofs.Common.{◌≡◌, [], ◌∷◌, ◌++◌, length, refl, ap, sym, ◌∙◌, append_assoc, rules}
use Rattle.std.proofs.lemmas.Result.{err_from_is_err_and}
use Rattle.std.specs.Slice.Iter.{chunks_rest}
use Rattle.amq_protocol_types.specs.Flags.{listed, flags_of, values_of, pack, bytes_for}
use Rattle.amq_protocol_types.proofs.FlagBits.{flags_chunk, flags_read_back, count_packed}
use Rattle.amq_protocol_types.proofs.FlagPuts.{capacity_promised, capacity_refused, put_more, refused_later, one_fits}
use Rattle.amq_protocol_types.proofs.generation.flags.gen_flags.Goals as goal

pub returns-in_err-make_room-clause-written : goal.returns-in_err-make_room-clause-written
returns-in_err-make_room-clause-written g c =
    let p = err_from_is_err_and c.from_residual.result c.from_residual.ensures.1 in
    let ceil : c.div_ceil.result ≡ bytes_for (length c.as_slice-all.result.now) = search rules in
    let count = count_packed c.as_slice-all.result.now (flags_of c.args.flags.now) c.div_ceil.result c.as_slice-all.ensures ceil in
    rw (p.1, p.2) (capacity_refused (pack (values_of (flags_of c.args.flags.now))) count c.in_err-make_room.ensures.made)

pub returns-in_err-make_room-clause-read_back : goal.returns-in_err-make_room-clause-read_back
returns-in_err-make_room-clause-read_back g c = flags_read_back (flags_of c.args.flags.now)

pub loop-eight-init : goal.loop-eight-init
loop-eight-init g c =
    let ceil : c.div_ceil.result ≡ bytes_for (length c.as_slice-all.result.now) = search rules in
    let count = count_packed c.as_slice-all.result.now (flags_of c.args.flags.now) c.div_ceil.result c.as_slice-all.ensures ceil in
    let rest = ap chunks_rest c.into_iter-eight-iterator.ensures.into_iter_gives ∙ c.chunks-eight-items.ensures.rest in
    (search rules, search rules, ([], capacity_promised count c.in_ok-make_room.ensures.made, ap (λ l. pack (values_of l)) (ap listed rest ∙ c.as_slice-all.ensures)))

pub loop-eight-preserved : goal.loop-eight-preserved
loop-eight-preserved g c =
    let steps = c.in-Some.ensures.steps in
    let size = c.loop-eight.invariant.0 in
    let so_far = c.loop-eight.invariant.2 in
    let after = pack (values_of (listed (chunks_rest c.next.new.self))) in
    let byte = flags_chunk _ c.in-Some.eight.now (chunks_rest c.next.new.self) _ size steps.1.0 steps.1.1 steps.1.2 in (
      steps.0 ∙ size,
      c.put.ensures.start ∙ c.loop-eight.invariant.1,
      (
        so_far.0 ++ c.byte_of.result ∷ [],
        put_more so_far.1 c.in_ok-put.ensures.put,
        append_assoc so_far.0 (c.byte_of.result ∷ []) after
            ∙ ap (λ b. so_far.0 ++ b ∷ after) c.byte_of.ensures
            ∙ ap (λ l. so_far.0 ++ l) (sym byte)
            ∙ so_far.2,
      ),
    )

pub returns-in_err-put-clause-written : goal.returns-in_err-put-clause-written
returns-in_err-put-clause-written g c =
    let p = err_from_is_err_and c.from_residual-in_err-put.result c.from_residual-in_err-put.ensures.1 in
    let steps = c.in-Some.ensures.steps in
    let size = c.loop-eight.invariant.0 in
    let so_far = c.loop-eight.invariant.2 in
    let after = pack (values_of (listed (chunks_rest c.next.new.self))) in
    let byte = flags_chunk _ c.in-Some.eight.now (chunks_rest c.next.new.self) _ size steps.1.0 steps.1.1 steps.1.2 in
    let all = pack (values_of (flags_of c.args.flags.now)) in
    let capacity = one_fits so_far.0 _ after all _ byte so_far.2 in
    rw (p.1, p.2) (refused_later all refl capacity so_far.1 c.in_err-put.ensures.put)

pub returns-in_err-put-clause-read_back : goal.returns-in_err-put-clause-read_back
returns-in_err-put-clause-read_back g c = flags_read_back (flags_of c.args.flags.now)

pub returns-clause-read_back : goal.returns-clause-read_back
returns-clause-read_back g c = flags_read_back (flags_of c.args.flags.now)
