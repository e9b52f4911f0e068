-- `Screen::append`: text that may be shown as it is keeps the screen showable.
use Rattle.std.proofs.lemmas.Str.{IsUtf8-string_bytes}
use Rattle.amqp_show.proofs.Screens.{kept}
use Rattle.amqp_show.proofs.screen.Screen.append.Goals as goal

pub invariant_of-self : goal.invariant_of-self
invariant_of-self c = record { showable = kept c.args.self.now.has_colours _ _ _ _ c.push_str.ensures.bytes (IsUtf8-string_bytes c.args.self.now.text) c.args.self.now.showable c.requires }
