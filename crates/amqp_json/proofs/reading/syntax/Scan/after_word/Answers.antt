-- `after_word`: what ends the word is white space, or comes after the value.
use Rattle.std.proofs.Common.{sym, ◌∙◌}
use Rattle.amqp_json.proofs.Completing.{space_ends, word_then}
use Rattle.amqp_json.proofs.reading.syntax.Scan.after_word.Goals as goal

pub returns-then-is_space-clause-leads : goal.returns-then-is_space-clause-leads
returns-then-is_space-clause-leads c = space_ends _ c.args.byte (sym c.is_space.ensures ∙ c.if-is_space.true)

pub returns-else-is_space-clause-leads : goal.returns-else-is_space-clause-leads
returns-else-is_space-clause-leads c = word_then _ _ _ c.args.byte (sym c.is_space.ensures ∙ c.if-is_space.false) c.after_value.ensures.leads
