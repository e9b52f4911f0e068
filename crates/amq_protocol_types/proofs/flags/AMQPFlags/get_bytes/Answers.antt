-- `AMQPFlags::get_bytes`: the next eight flags are one byte of `pack`, and the flags left are the
-- bytes after it.
use Rattle.std.proofs.Common.{◌∷◌, [], ◌++◌, ap, sym, ◌∙◌, append_assoc}
use Rattle.std.specs.Slice.Iter.{chunks_rest}
use Rattle.amq_protocol_types.specs.Flags.{listed, values_of, pack}
use Rattle.amq_protocol_types.proofs.FlagBits.{flags_chunk}
use Rattle.amq_protocol_types.proofs.flags.AMQPFlags.get_bytes.Goals as goal

pub loop-eight-preserved : goal.loop-eight-preserved
loop-eight-preserved c =
    let steps = c.in-Some.ensures.steps in
    let size = c.loop-eight.invariant.0 in
    let bytes = c.loop-eight.bytes.items in
    let after = pack (values_of (listed (chunks_rest c.next.new.self))) in
    let byte = flags_chunk _ c.in-Some.eight.now (chunks_rest c.next.new.self) _ size steps.1.0 steps.1.1 steps.1.2 in (
      steps.0 ∙ size,
      ap (λ l. l ++ after) c.in_ok-push.ensures.items
          ∙ append_assoc bytes (c.byte_of.result ∷ []) after
          ∙ ap (λ b. bytes ++ b ∷ after) c.byte_of.ensures
          ∙ ap (λ l. bytes ++ l) (sym byte)
          ∙ c.loop-eight.invariant.1,
    )
