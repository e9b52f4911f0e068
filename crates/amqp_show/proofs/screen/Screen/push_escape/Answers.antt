-- `Screen::push_escape`: an escape is a backslash, a `u` and four digits.
use Rattle.amqp_show.proofs.Adding.{adds_escape}
use Rattle.amqp_show.proofs.Screens.{escape_begin}
use Rattle.amqp_show.proofs.screen.Screen.push_escape.Goals as goal

pub append-requires : goal.append-requires
append-requires c = escape_begin _

pub returns : goal.returns
returns c =
    adds_escape _ _ _ _ _ _ c.from-code.result c.args.c c.from-code.ensures c.in_ok-append.ensures c.in_ok-push_digit.ensures
    c.in_ok-push_digit-2.ensures c.in_ok-push_digit-3.ensures c.in_ok-push_digit-4.ensures
