-- `Screen::push`: words are added whole if all of them print, and otherwise character by character.
use Rattle.std.proofs.Common.{sym, subst}
use Rattle.std.proofs.lemmas.Iterator.{YieldsList-from_chars}
use Rattle.std.proofs.lemmas.Iterator.Consumers.{YieldsList-end}
use Rattle.std.specs.Prelude.{OnOk}
use Rattle.amqp_show.specs.Output.{AddsText}
use Rattle.amqp_show.specs.Screens.{shown_character}
use Rattle.amqp_show.proofs.Adding.{adds_one_more, adds_all}
use Rattle.amqp_show.proofs.Printing.{printing_showable, printing_line}
use Rattle.amqp_show.proofs.screen.Screen.push.Goals as goal

pub append-requires : goal.append-requires
append-requires c = printing_showable c.args.self.now.has_colours c.args.words.now c.if-all_print.ensures

pub returns-then-all_print : goal.returns-then-all_print
returns-then-all_print c =
    subst (λ t. OnOk c.append.result (AddsText c.args.self.now c.append.new.self t)) (sym (printing_line c.args.words.now c.utf8.words c.if-all_print.ensures)) c.append.ensures

pub loop-c-preserved : goal.loop-c-preserved
loop-c-preserved c = adds_one_more shown_character _ _ _ c.loop-c.yielded c.in-Some.c c.loop-c.invariant c.in_ok-push_character.ensures

pub returns : goal.returns
returns c =
    let all = YieldsList-from_chars c.args.words.now c.utf8.words cc in
    let end = YieldsList-end all c.loop-c.yielded _ c.loop-c.yielded_by _ _ c.in-None.is c.next.ensures.steps in
    adds_all shown_character _ _ c.loop-c.yielded _ end.0 c.loop-c.invariant
