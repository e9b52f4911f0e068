-- `after_value`: by the innermost bracket and the byte.
use Rattle.std.proofs.Common.{rules}
use Rattle.amqp_json.proofs.Completing.{comma_in_array, comma_in_object, end_of_array, end_of_object, not_in_array, not_in_object, after_all}
use Rattle.amqp_json.proofs.reading.syntax.Scan.after_value.Goals as goal

pub returns-in_default-clause-leads : goal.returns-in_default-clause-leads
returns-in_default-clause-leads c = after_all _ c.args.byte c.in_default.ensures c.requires.solid

pub returns-in-44-clause-leads : goal.returns-in-44-clause-leads
returns-in-44-clause-leads c = comma_in_array _ _ _ c.args.byte c.in-Some.ensures (search rules) (search rules)

pub returns-in-93-clause-leads : goal.returns-in-93-clause-leads
returns-in-93-clause-leads c = end_of_array _ _ _ c.args.byte c.in-Some.ensures _ _ c.close.ensures.place c.close.ensures.closed (search rules) (search rules)

pub returns-in_default-byte-clause-leads : goal.returns-in_default-byte-clause-leads
returns-in_default-byte-clause-leads c = not_in_array _ _ _ c.args.byte c.in-Some.ensures (search rules) (search rules) (search rules) c.requires.solid

pub returns-in-44-byte-clause-leads : goal.returns-in-44-byte-clause-leads
returns-in-44-byte-clause-leads c = comma_in_object _ _ _ c.args.byte c.in-Some.ensures (search rules) (search rules)

pub returns-in-125-clause-leads : goal.returns-in-125-clause-leads
returns-in-125-clause-leads c = end_of_object _ _ _ c.args.byte c.in-Some.ensures _ _ c.close-in-125.ensures.place c.close-in-125.ensures.closed (search rules) (search rules)

pub returns-in_default-byte-2-clause-leads : goal.returns-in_default-byte-2-clause-leads
returns-in_default-byte-2-clause-leads c = not_in_object _ _ _ c.args.byte c.in-Some.ensures (search rules) (search rules) (search rules) c.requires.solid
