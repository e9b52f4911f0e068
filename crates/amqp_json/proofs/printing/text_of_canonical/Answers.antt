-- `text_of_canonical`: a canonical encoding is read as its own value, and is written as that value,
-- so the text is the value's. If it isn't read, the value isn't `readable`.
use Rattle.std.proofs.Common.{List, ℕ, Some, ap, ◌∙◌, subst}
use Rattle.amqp_in_place.proofs.Canonicals.{bytes_all}
use Rattle.amqp_value_core.specs.Outcomes.{Outcome}
use Rattle.amq_protocol_types.specs.parsing.ParseResults.{IsRefusal}
use Rattle.amqp_json.specs.Meaning.{meant}
use Rattle.amqp_json.proofs.AsWritten.{canonical_again}
use Rattle.amqp_json.proofs.Encodings.{not_again}
use Rattle.amqp_json.proofs.TextRoundTrip.{text_is_read}
use Rattle.amqp_json.proofs.printing.text_of_canonical.Goals as goal

pub text_of-requires : goal.text_of-requires
text_of-requires c =
    let bytes = c.args.bytes.now in
    let (o, is, back) = c.requires.canonical in
    let at = canonical_again bytes c.in-Ok.field-0-1.now c.in-Ok.found o (bytes_all bytes c.type_inv.bytes) is back c.in-Ok.ensures.outcome c.in-Ok.ensures.inside in
    record { json = (o, at.0, at.1) }

pub returns-in_ok-text_of-in-Ok-clause-text : goal.returns-in_ok-text_of-in-Ok-clause-text
returns-in_ok-text_of-in-Ok-clause-text c o is back =
    let bytes = c.args.bytes.now in
    let at = canonical_again bytes c.in-Ok.field-0-1.now c.in-Ok.found o (bytes_all bytes c.type_inv.bytes) is back c.in-Ok.ensures.outcome c.in-Ok.ensures.inside in
    c.in_ok-text_of-in-Ok.ensures.text o at.0

pub returns-in_ok-text_of-in-Ok-clause-read_back : goal.returns-in_ok-text_of-in-Ok-clause-read_back
returns-in_ok-text_of-in-Ok-clause-read_back c o is back shallow =
    let bytes = c.args.bytes.now in
    let at = canonical_again bytes c.in-Ok.field-0-1.now c.in-Ok.found o (bytes_all bytes c.type_inv.bytes) is back c.in-Ok.ensures.outcome c.in-Ok.ensures.inside in
    ap meant (c.in_ok-text_of-in-Ok.ensures.text o at.0) ∙ text_is_read o at.1 shallow ∙ ap Some at.2

pub returns-in-Err-clause-refused : goal.returns-in-Err-clause-refused
returns-in-Err-clause-refused c o is back =
    let e = c.in-Err._refusal in
    not_again o e back (subst (λ (s : List ℕ). IsRefusal (Outcome s) ⊥ e) is c.in-Err.ensures.outcome)
