-- `place_after`: by the place.
use Rattle.std.proofs.Common.{rules, sym, ◌∙◌, true, false}
use Rattle.amqp_json.proofs.Completing.{stays, colon_leads, missing_colon, in_letters, in_number, in_text, after_text}
use Rattle.amqp_json.proofs.reading.syntax.Scan.place_after.Goals as goal

pub returns-in_default : goal.returns-in_default
returns-in_default c = record { place = tt; leads = stays c.args.self.now.place _ c.args.byte (sym c.is_space.ensures ∙ c.if-is_space.true) c.in_default.not-EndOfWord c.in_default.not-Word c.in_default.not-Number c.in_default.not-InString }

pub returns-in-Colon : goal.returns-in-Colon
returns-in-Colon c = record { place = tt; leads = colon_leads c.args.self.now.place _ c.args.byte (search rules) c.if-byte-eq58.true }

pub returns-in-Colon-2 : goal.returns-in-Colon-2
returns-in-Colon-2 c = record { place = tt; leads = missing_colon c.args.self.now.place _ c.args.byte (search rules) c.if-byte-eq58.false (sym c.is_space.ensures ∙ c.if-is_space.false) }

pub returns-in-Word-clause-leads : goal.returns-in-Word-clause-leads
returns-in-Word-clause-leads c = in_letters c.args.self.now.place c.in-Word-1.letters _ _ c.args.byte (search rules) c.after_letter.ensures.leads

pub returns-in-Some-clause-leads : goal.returns-in-Some-clause-leads
returns-in-Some-clause-leads c = in_number c.args.self.now.place c.in-Number-1.number c.in-Some.number _ c.args.byte (search rules) (search rules)

pub returns-in-Some-2-clause-leads : goal.returns-in-Some-2-clause-leads
returns-in-Some-2-clause-leads c = in_text c.args.self.now.place c.in-InString-1.is_key c.in-InString-1.next c.in-Some-2.next _ c.args.byte (search rules) (search rules)

pub returns-in-None-2-clause-leads : goal.returns-in-None-2-clause-leads
returns-in-None-2-clause-leads c = after_text c.args.self.now.place true c.in-InString-1.next _ c.args.byte (search rules) (search rules)

pub returns-in-None-2-2-clause-leads : goal.returns-in-None-2-2-clause-leads
returns-in-None-2-2-clause-leads c = after_text c.args.self.now.place false c.in-InString-1.next _ c.args.byte (search rules) (search rules)
