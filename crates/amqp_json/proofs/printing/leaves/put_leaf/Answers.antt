-- `put_leaf`: the function of each type puts what is `written`; a signed integer that is widened to
-- 64 bits keeps its decimal text.
use Rattle.std.proofs.Common.{rules, ◌≡◌, ◌∷◌, [], ℕ, List, codes, sym, subst, w8, w16, w64}
use Rattle.std.specs.Fmt.{signed_decimal}
use Rattle.std.specs.Int.{cast_signed, cast_unsigned}
use mir.Val.{to_z, of_z}
use Rattle.json.specs.Token.{begin_object, end_object, key, number}
use Rattle.amqp_value_core.specs.Values.{Tree}
use Rattle.amqp_in_place.specs.declared.refs.ValueRef.{ValueRef}
use Rattle.amqp_in_place.specs.Refs.{Denotes}
use Rattle.amqp_json.specs.printing.Buffers.{PutsTokens, PutsJson}
use Rattle.amqp_json.specs.Written.{written}
use Rattle.amqp_json.proofs.printing.leaves.put_leaf.Goals as goal

pub returns-in-ShortShortInt : goal.returns-in-ShortShortInt
returns-in-ShortShortInt c = λ v d.
    let n = c.in-ShortShortInt.n in
    let same : signed_decimal (to_z w64 (of_z w64 (to_z w8 (of_z w8 n)))) ≡ signed_decimal (cast_signed w8 (cast_unsigned w8 n)) = search rules in
    subst (λ (u : Tree). PutsJson c.args.buffer.now c.args.place c.integer.new.buffer c.integer.result (written u)) (sym (subst (λ (r : ValueRef). Denotes r v) c.in-ShortShortInt.is d))
    (subst (λ (s : List ℕ). PutsTokens c.args.buffer.now c.args.place c.integer.new.buffer c.integer.result (begin_object ∷ key (codes "$ShortShortInt") ∷ number s ∷ end_object ∷ [])) same c.integer.ensures)

pub returns-in-ShortShortUInt : goal.returns-in-ShortShortUInt
returns-in-ShortShortUInt c = λ v d.
    subst (λ (u : Tree). PutsJson c.args.buffer.now c.args.place c.natural.new.buffer c.natural.result (written u)) (sym (subst (λ (r : ValueRef). Denotes r v) c.in-ShortShortUInt.is d)) c.natural.ensures

pub returns-in-ShortInt : goal.returns-in-ShortInt
returns-in-ShortInt c = λ v d.
    let n = c.in-ShortInt.n in
    let same : signed_decimal (to_z w64 (of_z w64 (to_z w16 (of_z w16 n)))) ≡ signed_decimal (cast_signed w16 (cast_unsigned w16 n)) = search rules in
    subst (λ (u : Tree). PutsJson c.args.buffer.now c.args.place c.integer-in-ShortInt.new.buffer c.integer-in-ShortInt.result (written u)) (sym (subst (λ (r : ValueRef). Denotes r v) c.in-ShortInt.is d))
    (subst (λ (s : List ℕ). PutsTokens c.args.buffer.now c.args.place c.integer-in-ShortInt.new.buffer c.integer-in-ShortInt.result (begin_object ∷ key (codes "$ShortInt") ∷ number s ∷ end_object ∷ [])) same c.integer-in-ShortInt.ensures)

pub returns-in-ShortUInt : goal.returns-in-ShortUInt
returns-in-ShortUInt c = λ v d.
    subst (λ (u : Tree). PutsJson c.args.buffer.now c.args.place c.natural-in-ShortUInt.new.buffer c.natural-in-ShortUInt.result (written u)) (sym (subst (λ (r : ValueRef). Denotes r v) c.in-ShortUInt.is d)) c.natural-in-ShortUInt.ensures

pub returns-in-LongUInt : goal.returns-in-LongUInt
returns-in-LongUInt c = λ v d.
    subst (λ (u : Tree). PutsJson c.args.buffer.now c.args.place c.natural-in-LongUInt.new.buffer c.natural-in-LongUInt.result (written u)) (sym (subst (λ (r : ValueRef). Denotes r v) c.in-LongUInt.is d)) c.natural-in-LongUInt.ensures

pub returns-in-DecimalValue : goal.returns-in-DecimalValue
returns-in-DecimalValue c = λ v d.
    subst (λ (u : Tree). PutsJson c.args.buffer.now c.args.place c.decimal.new.buffer c.decimal.result (written u)) (sym (subst (λ (r : ValueRef). Denotes r v) c.in-DecimalValue.is d)) c.decimal.ensures

pub returns-in-Timestamp : goal.returns-in-Timestamp
returns-in-Timestamp c = λ v d.
    subst (λ (u : Tree). PutsJson c.args.buffer.now c.args.place c.natural-in-Timestamp.new.buffer c.natural-in-Timestamp.result (written u)) (sym (subst (λ (r : ValueRef). Denotes r v) c.in-Timestamp.is d)) c.natural-in-Timestamp.ensures

pub returns-in-ByteArray : goal.returns-in-ByteArray
returns-in-ByteArray c = λ v d.
    subst (λ (u : Tree). PutsJson c.args.buffer.now c.args.place c.digits.new.buffer c.digits.result (written u)) (sym (subst (λ (r : ValueRef). Denotes r v) c.in-ByteArray.is d)) c.digits.ensures
