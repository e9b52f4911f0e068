-- `all_print`: once the iterator ends, each character has been looked at, and prints.
use Rattle.std.proofs.Common.{sym, ◌∙◌}
use Rattle.std.proofs.lemmas.Iterator.{YieldsList-from_chars}
use Rattle.std.proofs.lemmas.Iterator.Consumers.{YieldsList-end}
use Rattle.amqp_show.proofs.Printing.{one_more_prints, all_of_them_print}
use Rattle.amqp_show.proofs.screen.all_print.Goals as goal

pub loop-c-preserved : goal.loop-c-preserved
loop-c-preserved c = one_more_prints c.loop-c.yielded c.in-Some.c c.loop-c.invariant (sym c.does_print.ensures ∙ c.if-not-does_print.false)

pub returns : goal.returns
returns c =
    let all = YieldsList-from_chars c.args.words.now c.utf8.words cc in
    let end = YieldsList-end all c.loop-c.yielded _ c.loop-c.yielded_by _ _ c.in-None.is c.next.ensures.steps in
    all_of_them_print c.loop-c.yielded _ end.0 c.loop-c.invariant
