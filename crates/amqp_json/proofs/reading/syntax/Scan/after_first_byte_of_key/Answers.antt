-- `after_first_byte_of_key`: by the byte.
use Rattle.std.proofs.Common.{rules}
use Rattle.amqp_json.proofs.Completing.{key_quote, object_ends, no_object, no_key}
use Rattle.amqp_json.proofs.reading.syntax.Scan.after_first_byte_of_key.Goals as goal

pub returns-in-34-clause-leads : goal.returns-in-34-clause-leads
returns-in-34-clause-leads c = key_quote c.args.after _ c.args.byte _ (search rules) c.string.ensures

pub returns-in-OpeningBracket-clause-leads : goal.returns-in-OpeningBracket-clause-leads
returns-in-OpeningBracket-clause-leads c = object_ends c.args.after _ c.args.byte _ _ (search rules) (search rules) c.close.ensures.place c.close.ensures.closed

pub returns-in-Comma : goal.returns-in-Comma
returns-in-Comma c = record { place = tt; leads = no_object c.args.after _ c.args.byte c.in-Comma.is c.in-125.is }

pub returns-in_default-clause-leads : goal.returns-in_default-clause-leads
returns-in_default-clause-leads c = no_key c.args.after _ c.args.byte (search rules) (search rules) c.requires.solid
