-- `after_in_string`: each byte goes on with the string as `content` does.
use Rattle.std.proofs.Common.{rules, arith}
use Rattle.amqp_json.proofs.Halves.{control_ends, plain_leads, escape_leads, u_leads, short_leads, unknown_ends, fourth_leads}
use Rattle.amqp_json.proofs.reading.syntax.after_in_string.Goals as goal

pub returns-in_default-byte-clause-leads : goal.returns-in_default-byte-clause-leads
returns-in_default-byte-clause-leads c = unknown_ends c.args.next c.args.byte (search rules) (search rules) (search rules)

pub returns-in-0-to-31-clause-leads : goal.returns-in-0-to-31-clause-leads
returns-in-0-to-31-clause-leads c = control_ends c.args.next c.args.byte (search rules) (omega arith)

pub returns-in-FourthDigit-true-clause-leads : goal.returns-in-FourthDigit-true-clause-leads
returns-in-FourthDigit-true-clause-leads c = fourth_leads c.args.next c.args.byte (search rules) (search rules)

pub returns-in-117-clause-leads : goal.returns-in-117-clause-leads
returns-in-117-clause-leads c = u_leads c.args.next c.args.byte (search rules) (search rules)

pub returns-in-34-clause-leads : goal.returns-in-34-clause-leads
returns-in-34-clause-leads c = short_leads c.args.next c.args.byte (search rules) (search rules)

pub returns-in-92-clause-leads : goal.returns-in-92-clause-leads
returns-in-92-clause-leads c = escape_leads c.args.next c.args.byte (search rules) (search rules)

pub returns-in_default-byte-2-clause-leads : goal.returns-in_default-byte-2-clause-leads
returns-in_default-byte-2-clause-leads c = plain_leads c.args.next c.args.byte (search rules) (search rules) (search rules) (omega arith)
