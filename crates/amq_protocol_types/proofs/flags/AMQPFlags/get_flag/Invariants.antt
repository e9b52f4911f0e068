-- Of the loop in `AMQPFlags::get_flag`: `flag_named` finds in the flags left what it finds in all.
use Rattle.std.proofs.Common.{◌≡◌, drop}
use Rattle.amq_protocol_types.specs.Flags.{listed, flag_named}
use Rattle.amq_protocol_types.proofs.flags.AMQPFlags.get_flag.Given as goal

-- the flags that are left decide
abbrev pub invariant-loop-n : goal.invariant-loop-n
invariant-loop-n l = flag_named l.name (listed (drop l.n-index l.n-items)) ≡ flag_named l.name (listed l.n-items)
