-- `Screen::add`: a character that prints keeps the screen showable.
use Rattle.std.proofs.lemmas.Str.{IsUtf8-string_bytes}
use Rattle.amqp_show.proofs.Screens.{kept, printed}
use Rattle.amqp_show.proofs.screen.Screen.add.Goals as goal

pub invariant_of-self : goal.invariant_of-self
invariant_of-self c = record { showable = kept c.args.self.now.has_colours _ _ _ _ c.push.ensures.bytes (IsUtf8-string_bytes c.args.self.now.text) c.args.self.now.showable (printed c.args.self.now.has_colours c.args.c c.ranges.c.0 c.requires) }
