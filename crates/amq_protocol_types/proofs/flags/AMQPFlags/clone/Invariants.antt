-- Of the loop in `AMQPFlags::clone`: the copy has the flags so far, in order.
use Rattle.std.proofs.Common.{◌≡◌, take}
use Rattle.amq_protocol_types.specs.Flags.{listed, flags_of}
use Rattle.amq_protocol_types.proofs.flags.AMQPFlags.clone.Given as goal

-- the flags so far were copied
abbrev pub invariant-loop-name : goal.invariant-loop-name
invariant-loop-name l = flags_of l.copy ≡ listed (take l.name-index l.name-items)
