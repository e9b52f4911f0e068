-- Of the loop in `gen_flags`: the bytes put so far, then `pack` of the flags left, are `pack` of
-- all flags.
use Rattle.std.proofs.Common.{◌≡◌, ◌++◌, List, ℕ, length}
use Rattle.std.specs.Slice.Iter.{chunks_rest, chunks_size}
use Rattle.amq_protocol_types.specs.generation.Contexts.{start_of, state_of}
use Rattle.amq_protocol_types.specs.Flags.{listed, values_of, flags_of, pack}
use Rattle.amq_protocol_types.proofs.FlagPuts.{PutSoFar}
use Rattle.amq_protocol_types.proofs.generation.flags.gen_flags.Given as goal

-- the bytes of some flags were put, and those of the others are left
abbrev pub invariant-loop-eight : goal.invariant-loop-eight
invariant-loop-eight g l =
    (chunks_size l.eight-iterator ≡ 8)
    × (start_of l.x ≡ start_of l.fn.x)
    × ((done : List ℕ)
    × PutSoFar g.W.Output.is_buffer (length (pack (values_of (flags_of l.flags)))) done (state_of g.W.Output.seen l.fn.x) (state_of g.W.Output.seen l.x)
    × (done ++ pack (values_of (listed (chunks_rest l.eight-iterator))) ≡ pack (values_of (flags_of l.flags))))
