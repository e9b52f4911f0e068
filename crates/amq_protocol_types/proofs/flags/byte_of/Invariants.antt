-- Of the loop in `byte_of`: the byte is the number of the first i flags, which is below 2 ^ i.
use Rattle.std.proofs.Common.{◌≡◌, ◌<◌, ◌^◌, take}
use Rattle.amq_protocol_types.specs.Flags.{listed, values_of, number_of}
use Rattle.amq_protocol_types.proofs.flags.byte_of.Given as goal

-- the number of the flags so far
abbrev pub invariant-loop-i : goal.invariant-loop-i
invariant-loop-i l = (l.byte ≡ number_of (values_of (listed (take l.i l.flags)))) × (l.byte < 2 ^ l.i)
