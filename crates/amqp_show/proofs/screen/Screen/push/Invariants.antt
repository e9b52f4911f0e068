-- Of the loop in `Screen::push`: the characters so far are added, each as `shown_character` has it.
use Rattle.std.specs.List.{flat_map}
use Rattle.amqp_show.specs.Screens.{shown_character}
use Rattle.amqp_show.specs.Output.{AddsText}
use Rattle.amqp_show.proofs.screen.Screen.push.Given as goal

-- the characters so far are added
abbrev pub invariant-loop-c : goal.invariant-loop-c
invariant-loop-c l = AddsText l.initial.self l.self (flat_map shown_character l.yielded)
