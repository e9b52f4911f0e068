-- `encoding_by_type` encodes the number that the bits determine: they are converted to the type's
-- width without loss, and written big-endian.
use Rattle.std.proofs.Common.{ℕ, [], ◌∷◌, refl, ap, ◌∙◌, rules}
use Rattle.std.specs.Int.{w8, w16, w32, cast_unsigned, to_be_bytes}
use Rattle.std.proofs.lemmas.Int.{of_z-to_z}
use Rattle.amqp_value_core.specs.declared.types.amqp_type.AMQPType.TheVariants as amqp
use Rattle.amqp_c.proofs.Scalars.{converted, small_signed, number_determined, one_byte}
use Rattle.amqp_c.proofs.number.encoding_by_type.Goals as goal

pub returns-in_ok-n-in-ShortShortInt : goal.returns-in_ok-n-in-ShortShortInt
returns-in_ok-n-in-ShortShortInt c =
    let z = c.in_ok-n-in-ShortShortInt.n in
    let n = converted c.try_from.result c.ok.result z _ _ (c.in_ok-n-in-ShortShortInt.was {u = tt}) c.ok.ensures.value c.try_from.ensures in
    let m = small_signed w8 c.args.bits c.cast_signed.result z c.ranges.bits.fits c.cast_signed.ensures n in
    number_determined c.args.amqp_type amqp.ShortShortInt (cast_unsigned w8 z) c.args.bits 0 c.new.result c.to_be_bytes.result
    (search rules) refl m.0 m.1 c.new.ensures (c.to_be_bytes.ensures ∙ (ap (λ (b : ℕ). b ∷ []) (of_z-to_z w8 (cast_unsigned w8 z) m.0) ∙ one_byte (cast_unsigned w8 z) m.0))

pub returns-in_ok-n-in-ShortShortUInt : goal.returns-in_ok-n-in-ShortShortUInt
returns-in_ok-n-in-ShortShortUInt c =
    let z = c.in_ok-n-in-ShortShortUInt.n in
    let n = converted c.try_from-in-ShortShortUInt.result c.ok-in-ShortShortUInt.result z _ _ (c.in_ok-n-in-ShortShortUInt.was {u = tt}) c.ok-in-ShortShortUInt.ensures.value c.try_from-in-ShortShortUInt.ensures in
    number_determined c.args.amqp_type amqp.ShortShortUInt c.args.bits c.args.bits 0 c.new-in-ShortShortUInt.result c.to_be_bytes-in-ShortShortUInt.result
    (search rules) refl n.0 refl c.new-in-ShortShortUInt.ensures (c.to_be_bytes-in-ShortShortUInt.ensures ∙ (ap (λ (b : ℕ). b ∷ []) n.1 ∙ one_byte c.args.bits n.0))

pub returns-in_ok-n-in-ShortInt : goal.returns-in_ok-n-in-ShortInt
returns-in_ok-n-in-ShortInt c =
    let z = c.in_ok-n-in-ShortInt.n in
    let n = converted c.try_from-in-ShortInt.result c.ok-in-ShortInt.result z _ _ (c.in_ok-n-in-ShortInt.was {u = tt}) c.ok-in-ShortInt.ensures.value c.try_from-in-ShortInt.ensures in
    let m = small_signed w16 c.args.bits c.cast_signed-in-ShortInt.result z c.ranges.bits.fits c.cast_signed-in-ShortInt.ensures n in
    number_determined c.args.amqp_type amqp.ShortInt (cast_unsigned w16 z) c.args.bits 0 c.new-in-ShortInt.result c.to_be_bytes-in-ShortInt.result
    (search rules) refl m.0 m.1 c.new-in-ShortInt.ensures (c.to_be_bytes-in-ShortInt.ensures ∙ ap (to_be_bytes w16) (of_z-to_z w16 (cast_unsigned w16 z) m.0))

pub returns-in_ok-n-in-ShortUInt : goal.returns-in_ok-n-in-ShortUInt
returns-in_ok-n-in-ShortUInt c =
    let z = c.in_ok-n-in-ShortUInt.n in
    let n = converted c.try_from-in-ShortUInt.result c.ok-in-ShortUInt.result z _ _ (c.in_ok-n-in-ShortUInt.was {u = tt}) c.ok-in-ShortUInt.ensures.value c.try_from-in-ShortUInt.ensures in
    number_determined c.args.amqp_type amqp.ShortUInt c.args.bits c.args.bits 0 c.new-in-ShortUInt.result c.to_be_bytes-in-ShortUInt.result
    (search rules) refl n.0 refl c.new-in-ShortUInt.ensures (c.to_be_bytes-in-ShortUInt.ensures ∙ ap (to_be_bytes w16) n.1)

pub returns-in_ok-n-in-LongInt : goal.returns-in_ok-n-in-LongInt
returns-in_ok-n-in-LongInt c =
    let z = c.in_ok-n-in-LongInt.n in
    let n = converted c.try_from-in-LongInt.result c.ok-in-LongInt.result z _ _ (c.in_ok-n-in-LongInt.was {u = tt}) c.ok-in-LongInt.ensures.value c.try_from-in-LongInt.ensures in
    let m = small_signed w32 c.args.bits c.cast_signed-in-LongInt.result z c.ranges.bits.fits c.cast_signed-in-LongInt.ensures n in
    number_determined c.args.amqp_type amqp.LongInt (cast_unsigned w32 z) c.args.bits 0 c.new-in-LongInt.result c.to_be_bytes-in-LongInt.result
    (search rules) refl m.0 m.1 c.new-in-LongInt.ensures (c.to_be_bytes-in-LongInt.ensures ∙ ap (to_be_bytes w32) (of_z-to_z w32 (cast_unsigned w32 z) m.0))

pub returns-in_ok-n-in-LongUInt : goal.returns-in_ok-n-in-LongUInt
returns-in_ok-n-in-LongUInt c =
    let z = c.in_ok-n-in-LongUInt.n in
    let n = converted c.try_from-in-LongUInt.result c.ok-in-LongUInt.result z _ _ (c.in_ok-n-in-LongUInt.was {u = tt}) c.ok-in-LongUInt.ensures.value c.try_from-in-LongUInt.ensures in
    number_determined c.args.amqp_type amqp.LongUInt c.args.bits c.args.bits 0 c.new-in-LongUInt.result c.to_be_bytes-in-LongUInt.result
    (search rules) refl n.0 refl c.new-in-LongUInt.ensures (c.to_be_bytes-in-LongUInt.ensures ∙ ap (to_be_bytes w32) n.1)

pub returns-in_ok-n-in-Float : goal.returns-in_ok-n-in-Float
returns-in_ok-n-in-Float c =
    let z = c.in_ok-n-in-Float.n in
    let n = converted c.try_from-in-Float.result c.ok-in-Float.result z _ _ (c.in_ok-n-in-Float.was {u = tt}) c.ok-in-Float.ensures.value c.try_from-in-Float.ensures in
    number_determined c.args.amqp_type amqp.Float c.args.bits c.args.bits 0 c.new-in-Float.result c.to_be_bytes-in-Float.result
    (search rules) refl n.0 refl c.new-in-Float.ensures (c.to_be_bytes-in-Float.ensures ∙ ap (to_be_bytes w32) n.1)

pub returns-in-LongLongInt : goal.returns-in-LongLongInt
returns-in-LongLongInt c =
    number_determined c.args.amqp_type amqp.LongLongInt c.args.bits c.args.bits 0 c.new-in-LongLongInt.result c.to_be_bytes-in-LongLongInt.result
    (search rules) refl c.ranges.bits.fits refl c.new-in-LongLongInt.ensures c.to_be_bytes-in-LongLongInt.ensures

pub returns-in-Double : goal.returns-in-Double
returns-in-Double c =
    number_determined c.args.amqp_type amqp.Double c.args.bits c.args.bits 0 c.new-in-Double.result c.to_be_bytes-in-Double.result
    (search rules) refl c.ranges.bits.fits refl c.new-in-Double.ensures c.to_be_bytes-in-Double.ensures

pub returns-in-Timestamp : goal.returns-in-Timestamp
returns-in-Timestamp c =
    number_determined c.args.amqp_type amqp.Timestamp c.args.bits c.args.bits 0 c.new-in-Timestamp.result c.to_be_bytes-in-Timestamp.result
    (search rules) refl c.ranges.bits.fits refl c.new-in-Timestamp.ensures c.to_be_bytes-in-Timestamp.ensures
