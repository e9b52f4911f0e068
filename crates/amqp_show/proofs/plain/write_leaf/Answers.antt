-- `write_leaf`: each type is written as its one token, of plain JSON of the value.
use Rattle.std.proofs.Common.{rules, ◌≡◌, ◌∷◌, [], ℕ, refl, sym, ap, w8, w16, w32, w64, decimal as digits}
use Rattle.std.specs.Fmt.{signed_decimal}
use Rattle.std.specs.Int.{cast_signed, cast_unsigned}
use mir.Val.{to_z, of_z}
use Rattle.hex.specs.Hex.{encode_lower}
use Rattle.json.specs.Token as token
use Rattle.json.specs.Json.{boolean, number, string, null}
use Rattle.amqp_json.specs.Written.{signed}
use Rattle.amqp_show.proofs.WritingPlain.{token_is, json_is, text_is_plain, digits_are_plain}
use Rattle.amqp_show.proofs.plain.write_leaf.Goals as goal

pub returns-in-Boolean-clause-plain : goal.returns-in-Boolean-clause-plain
returns-in-Boolean-clause-plain c = token_is _ c.args.value _ _ _ _ (boolean c.in-Boolean.b) c.in-Boolean.is c.requires refl refl c.boolean.ensures

pub returns-in-ShortShortInt-clause-plain : goal.returns-in-ShortShortInt-clause-plain
returns-in-ShortShortInt-clause-plain c =
    let n = c.in-ShortShortInt.n in
    let same : signed_decimal (to_z w64 (of_z w64 (to_z w8 (of_z w8 n)))) ≡ signed_decimal (cast_signed w8 (cast_unsigned w8 n)) = search rules in
    token_is _ c.args.value _ _ _ _ (signed w8 (cast_unsigned w8 n)) c.in-ShortShortInt.is c.requires (ap (λ s. token.number s ∷ []) (sym same)) refl c.i64.ensures

pub returns-in-ShortShortUInt-clause-plain : goal.returns-in-ShortShortUInt-clause-plain
returns-in-ShortShortUInt-clause-plain c = token_is _ c.args.value _ _ _ _ (number (digits c.in-ShortShortUInt.n)) c.in-ShortShortUInt.is c.requires refl refl c.u64.ensures

pub returns-in-ShortInt-clause-plain : goal.returns-in-ShortInt-clause-plain
returns-in-ShortInt-clause-plain c =
    let n = c.in-ShortInt.n in
    let same : signed_decimal (to_z w64 (of_z w64 (to_z w16 (of_z w16 n)))) ≡ signed_decimal (cast_signed w16 (cast_unsigned w16 n)) = search rules in
    token_is _ c.args.value _ _ _ _ (signed w16 (cast_unsigned w16 n)) c.in-ShortInt.is c.requires (ap (λ s. token.number s ∷ []) (sym same)) refl c.i64-in-ShortInt.ensures

pub returns-in-ShortUInt-clause-plain : goal.returns-in-ShortUInt-clause-plain
returns-in-ShortUInt-clause-plain c = token_is _ c.args.value _ _ _ _ (number (digits c.in-ShortUInt.n)) c.in-ShortUInt.is c.requires refl refl c.u64-in-ShortUInt.ensures

pub returns-in-LongInt-clause-plain : goal.returns-in-LongInt-clause-plain
returns-in-LongInt-clause-plain c =
    let n = c.in-LongInt.n in
    let same : signed_decimal (to_z w64 (of_z w64 (to_z w32 (of_z w32 n)))) ≡ signed_decimal (cast_signed w32 (cast_unsigned w32 n)) = search rules in
    token_is _ c.args.value _ _ _ _ (signed w32 (cast_unsigned w32 n)) c.in-LongInt.is c.requires (ap (λ s. token.number s ∷ []) (sym same)) refl c.i64-in-LongInt.ensures

pub returns-in-LongUInt-clause-plain : goal.returns-in-LongUInt-clause-plain
returns-in-LongUInt-clause-plain c = token_is _ c.args.value _ _ _ _ (number (digits c.in-LongUInt.n)) c.in-LongUInt.is c.requires refl refl c.u64-in-LongUInt.ensures

pub returns-in-LongLongInt-clause-plain : goal.returns-in-LongLongInt-clause-plain
returns-in-LongLongInt-clause-plain c = token_is _ c.args.value _ _ _ _ (signed w64 (cast_unsigned w64 c.in-LongLongInt.n)) c.in-LongLongInt.is c.requires refl refl c.i64-in-LongLongInt.ensures

pub returns-in-Ok-clause-plain : goal.returns-in-Ok-clause-plain
returns-in-Ok-clause-plain c =
    let s = c.in-LongString.bytes.now in
    token_is _ c.args.value _ _ _ _ (string c.in-Ok.text.now) c.in-LongString.is c.requires refl (text_is_plain s c.in-Ok.text.now (search rules) (search rules)) c.string.ensures

pub returns-in-Err-clause-plain : goal.returns-in-Err-clause-plain
returns-in-Err-clause-plain c =
    let s = c.in-LongString.bytes.now in
    json_is _ c.args.value _ _ _ (string (encode_lower s)) c.in-LongString.is c.requires (digits_are_plain s (search rules)) c.write_digits.ensures.digits

pub returns-in-ByteArray-clause-plain : goal.returns-in-ByteArray-clause-plain
returns-in-ByteArray-clause-plain c = json_is _ c.args.value _ _ _ (string (encode_lower c.in-ByteArray.bytes.now)) c.in-ByteArray.is c.requires refl c.write_digits-in-ByteArray.ensures.digits

pub returns-in-Some-clause-plain : goal.returns-in-Some-clause-plain
returns-in-Some-clause-plain c = token_is _ c.args.value _ _ _ _ (string c.as_str-in-Some.result.now) c.in-Timestamp.is c.requires refl tt c.string-in-Some.ensures

pub returns-in-None-clause-plain : goal.returns-in-None-clause-plain
returns-in-None-clause-plain c = token_is _ c.args.value _ _ _ _ (string (digits c.in-Timestamp.seconds)) c.in-Timestamp.is c.requires refl tt c.quoted_u64.ensures

pub returns-in-Void-clause-plain : goal.returns-in-Void-clause-plain
returns-in-Void-clause-plain c = token_is _ c.args.value _ _ _ _ null c.in-Void.is c.requires refl refl c.null.ensures
