-- Of the loop in `AMQPFlags::from_bytes`: the flags so far are the first ones of `unpack`.
use Rattle.std.proofs.Common.{◌≡◌, map, take}
use Rattle.amq_protocol_types.specs.Flags.{flags_of, unpack}
use Rattle.amq_protocol_types.proofs.flags.AMQPFlags.from_bytes.Given as goal

-- the flags so far are the first of all
abbrev pub invariant-loop-n : goal.invariant-loop-n
invariant-loop-n g l = flags_of l.flags ≡ take l.n (unpack (map (λ n. n.now) l.names) (g.I.ParsableInput.bytes l.bytes))
