-- Of the loop in `AMQPFlags::get_bytes`: the bytes so far, then `pack` of the flags left, are
-- `pack` of all flags.
use Rattle.std.proofs.Common.{◌≡◌, ◌++◌}
use Rattle.std.specs.Slice.Iter.{chunks_rest, chunks_size}
use Rattle.amq_protocol_types.specs.Flags.{listed, values_of, pack}
use Rattle.amq_protocol_types.proofs.flags.AMQPFlags.get_bytes.Given as goal

-- the bytes so far, and those of the flags that are left
abbrev pub invariant-loop-eight : goal.invariant-loop-eight
invariant-loop-eight l =
    (chunks_size l.eight-iterator ≡ 8)
    × (l.bytes.items ++ pack (values_of (listed (chunks_rest l.eight-iterator))) ≡ pack (values_of (listed l.self.flags.items)))
