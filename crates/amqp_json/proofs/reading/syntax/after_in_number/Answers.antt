-- `after_in_number`: a digit goes on with the number.
use Rattle.std.proofs.Common.{rules, arith}
use Rattle.amqp_json.proofs.Numerals.{minus_digit, integer_digit, point_digit, fraction_digit, e_digit, sign_digit, exponent_digit}
use Rattle.amqp_json.proofs.reading.syntax.after_in_number.Goals as goal

pub returns-in-Minus-49-to-57-clause-leads : goal.returns-in-Minus-49-to-57-clause-leads
returns-in-Minus-49-to-57-clause-leads c = minus_digit c.args.number c.args.byte (omega arith) (omega arith) (search rules) (search rules)

pub returns-in-Integer-48-to-57-clause-leads : goal.returns-in-Integer-48-to-57-clause-leads
returns-in-Integer-48-to-57-clause-leads c = integer_digit c.args.number c.args.byte (omega arith) (omega arith) (search rules)

pub returns-in-E-48-to-57-clause-leads : goal.returns-in-E-48-to-57-clause-leads
returns-in-E-48-to-57-clause-leads c = e_digit c.args.number c.args.byte (omega arith) (omega arith) (search rules)

pub returns-in-E-48-to-57-2-clause-leads : goal.returns-in-E-48-to-57-2-clause-leads
returns-in-E-48-to-57-2-clause-leads c = sign_digit c.args.number c.args.byte (omega arith) (omega arith) (search rules)

pub returns-in-E-48-to-57-3-clause-leads : goal.returns-in-E-48-to-57-3-clause-leads
returns-in-E-48-to-57-3-clause-leads c = exponent_digit c.args.number c.args.byte (omega arith) (omega arith) (search rules)

pub returns-in-Point-48-to-57-clause-leads : goal.returns-in-Point-48-to-57-clause-leads
returns-in-Point-48-to-57-clause-leads c = point_digit c.args.number c.args.byte (omega arith) (omega arith) (search rules)

pub returns-in-Point-48-to-57-2-clause-leads : goal.returns-in-Point-48-to-57-2-clause-leads
returns-in-Point-48-to-57-2-clause-leads c = fraction_digit c.args.number c.args.byte (omega arith) (omega arith) (search rules)
