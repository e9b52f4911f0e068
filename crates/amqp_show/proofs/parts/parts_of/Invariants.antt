-- Of the loop in `parts_of`: the walk is over the same bytes.
use Rattle.std.proofs.Common.{◌≡◌}
use Rattle.amqp_show.proofs.parts.parts_of.Given as goal

-- they are the parts of the same bytes
abbrev pub invariant-loop-entry : goal.invariant-loop-entry
invariant-loop-entry l = l.walk.bytes ≡ l.initial.walk.bytes
