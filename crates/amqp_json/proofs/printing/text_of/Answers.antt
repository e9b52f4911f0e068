-- `text_of`: what `put_value` puts, into the small buffer or one of the text's length, is the text,
-- which is UTF-8.
use Rattle.std.proofs.Common.{◌≡◌, take, rules, string_bytes, sym, ◌∙◌, subst, arith}
use Rattle.std.specs.Str.{IsUtf8}
use Rattle.std.specs.Vec.{with_items}
use Rattle.std.proofs.lemmas.List.{with_items_is}
use Rattle.amqp_json.proofs.PrintedTexts.{text_taken, text_filled}
use Rattle.amqp_json.proofs.TextRoundTrip.{text_is_utf8}
use Rattle.amqp_json.proofs.printing.text_of.Goals as goal

-- ---- a text that fits the small buffer

pub from_utf8_unchecked-requires : goal.from_utf8_unchecked-requires
from_utf8_unchecked-requires c =
    let (t, is, has) = c.requires.json in
    let same = text_taken t _ _ _ (c.put_value-end.ensures t is) (search rules) (omega arith) in
    let items : c.in_ok-text.text.items ≡ take c.put_value-end.result.count c.put_value-end.new.buffer = search rules in
    subst IsUtf8 (sym (items ∙ same)) (text_is_utf8 t has)

pub returns-then-end-le1024 : goal.returns-then-end-le1024
returns-then-end-le1024 c = record {
  text = λ t is.
      let same = text_taken t _ _ _ (c.put_value-end.ensures t is) (search rules) (omega arith) in
      let bytes : string_bytes c.from_utf8_unchecked.result ≡ take c.put_value-end.result.count c.put_value-end.new.buffer = search rules in
      bytes ∙ same;
}

-- ---- a longer one

pub from_utf8_unchecked-requires-2 : goal.from_utf8_unchecked-requires-2
from_utf8_unchecked-requires-2 c =
    let (t, is, has) = c.requires.json in
    let same = text_filled t _ _ _ _ _ _ (c.put_value-end.ensures t is) (c.put_value.ensures t is) (search rules) (omega arith) in
    subst IsUtf8 (sym (with_items_is c.in_ok-text-2.text c.put_value.new.buffer (search rules) ∙ same)) (text_is_utf8 t has)

pub returns : goal.returns
returns c = record {
  text = λ t is.
      let same = text_filled t _ _ _ _ _ _ (c.put_value-end.ensures t is) (c.put_value.ensures t is) (search rules) (omega arith) in
      let bytes : string_bytes c.from_utf8_unchecked-2.result ≡ (with_items c.in_ok-text-2.text c.put_value.new.buffer).items = search rules in
      bytes ∙ with_items_is c.in_ok-text-2.text c.put_value.new.buffer (search rules) ∙ same;
}
