-- `after_first_byte`: by the byte.
use Rattle.std.proofs.Common.{rules, arith, inl, inr}
use Rattle.amqp_json.proofs.Completing.{quote_leads, object_leads, array_leads, array_ends, trailing_comma, no_array, true_leads, false_leads, null_leads, minus_begins, zero_begins, digit_begins, no_value}
use Rattle.amqp_json.proofs.reading.syntax.Scan.after_first_byte.Goals as goal
use Rattle.amqp_json.proofs.reading.syntax.Scan.after_first_byte.Goals.{in_default-via-then-byte-lt48, in_default-via-else-byte-lt48+else-byte-lt58}

pub returns-in-34-clause-leads : goal.returns-in-34-clause-leads
returns-in-34-clause-leads c = quote_leads c.args.after _ c.args.byte _ (search rules) c.string.ensures

pub returns-in-123-clause-leads : goal.returns-in-123-clause-leads
returns-in-123-clause-leads c = object_leads c.args.after _ c.args.byte _ _ (search rules) c.open.ensures

pub returns-in-91-clause-leads : goal.returns-in-91-clause-leads
returns-in-91-clause-leads c = array_leads c.args.after _ c.args.byte _ _ (search rules) c.open-in-91.ensures

pub returns-in-OpeningBracket-clause-leads : goal.returns-in-OpeningBracket-clause-leads
returns-in-OpeningBracket-clause-leads c = array_ends c.args.after _ c.args.byte _ _ (search rules) (search rules) c.close.ensures.place c.close.ensures.closed

pub returns-in-Comma-clause-leads : goal.returns-in-Comma-clause-leads
returns-in-Comma-clause-leads c = trailing_comma c.args.after _ c.args.byte (search rules) (search rules)

pub returns-in-Other-clause-leads : goal.returns-in-Other-clause-leads
returns-in-Other-clause-leads c = no_array c.args.after _ c.args.byte (search rules) (search rules)

pub returns-in-116-clause-leads : goal.returns-in-116-clause-leads
returns-in-116-clause-leads c = true_leads c.args.after _ c.args.byte (search rules)

pub returns-in-102-clause-leads : goal.returns-in-102-clause-leads
returns-in-102-clause-leads c = false_leads c.args.after _ c.args.byte (search rules)

pub returns-in-110-clause-leads : goal.returns-in-110-clause-leads
returns-in-110-clause-leads c = null_leads c.args.after _ c.args.byte (search rules)

pub returns-in-45-clause-leads : goal.returns-in-45-clause-leads
returns-in-45-clause-leads c = minus_begins c.args.after _ c.args.byte (search rules)

pub returns-in-48-clause-leads : goal.returns-in-48-clause-leads
returns-in-48-clause-leads c = zero_begins c.args.after _ c.args.byte (search rules)

pub returns-in-49-to-57-clause-leads : goal.returns-in-49-to-57-clause-leads
returns-in-49-to-57-clause-leads c = digit_begins c.args.after _ c.args.byte (omega arith) (omega arith)

pub returns-in_default-clause-leads : goal.returns-in_default-clause-leads
returns-in_default-clause-leads c =
    elim c.in_default.branch [
      | in_default-via-then-byte-lt48 w ↦ no_value c.args.after _ c.args.byte (search rules) (search rules) (search rules) (search rules) (search rules) (search rules) (search rules) (search rules) (search rules) (inl (omega arith)) c.requires.solid
      | in_default-via-else-byte-lt48+else-byte-lt58 w ↦ no_value c.args.after _ c.args.byte (search rules) (search rules) (search rules) (search rules) (search rules) (search rules) (search rules) (search rules) (search rules) (inr (omega arith)) c.requires.solid
    ]
