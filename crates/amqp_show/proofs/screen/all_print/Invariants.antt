-- Of the loop in `all_print`: the characters so far print.
use Rattle.std.specs.Prelude.{IsTrue}
use Rattle.amqp_show.specs.Screens.{all_print}
use Rattle.amqp_show.proofs.screen.all_print.Given as goal

-- the characters so far print
abbrev pub invariant-loop-c : goal.invariant-loop-c
invariant-loop-c l = IsTrue (all_print l.yielded)
