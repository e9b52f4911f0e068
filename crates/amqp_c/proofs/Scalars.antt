-- Lemmas on values of fixed width: their type tags, their bits, and integers of entries.
use Rattle.std.proofs.Common.{◌≡◌, ℕ, true, false, Some, None, refl, sym, ap, ◌∙◌, arith, ℤ, ◌<◌, ◌^◌, List, [], ◌∷◌, get_or, Option, Result, Ok, Err, subst, pos, negsuc, unsigned_abs, FitsSigned, inl, inr}
use Rattle.std.specs.Int.{Width, cast_signed, cast_unsigned, w32, w64, to_be_bytes, bytes_high_first, FitsUnsignedBits}
use Rattle.std.specs.Int.RustNames.{FitsSigned}
use Rattle.std.proofs.lemmas.Int.{to_z-of_z, of_z-to_z}
use Rattle.std.specs.Result.{OkIff, result_ok}
use Rattle.std.proofs.Math.Facts.{Fits-of_z}
use mir.Val.{bits}
use Rattle.amqp_value_core.specs.declared.types.amqp_type.AMQPType.{AMQPType}
use Rattle.amqp_value_core.specs.declared.types.amqp_type.AMQPType.TheVariants as amqp
use Rattle.amqp_value_core.specs.Ids.{kind, id_of}
use Rattle.amqp_value_core.specs.Names.{read_as}
use Rattle.amqp_value_core.specs.Values.{Scalar, boolean, number, decimal, void, scalar_type, scalar}
use Rattle.amqp_value_core.specs.InMemory.{IsScalar, IsNumber}
use Rattle.amqp_value_core.specs.Layouts.{spelled}
use Rattle.amqp_value_core.specs.Texts.{text}
use Rattle.amq_protocol_types.proofs.ParsingLaws.{void_found}
use Rattle.amqp_c.specs.declared.entry.Entry.{Entry}
use Rattle.amqp_c.specs.declared.entry.Number.{Number}
use Rattle.amqp_c.specs.Items.{IsScalarTag, IsScalarOfType}
use Rattle.amqp_c.specs.Entries.{has_content}
use Rattle.amqp_c.specs.Scalars.{IsNumberPayload, bits_of_number, IsSignedTag, IsUnsignedTag, IsInteger, IsIntegerTag}

-- ---- type tags

-- a type of numbers is the one that its type tag denotes, and has no bytes after a length
number_kind : (type : AMQPType) (n : ℕ) → IsNumber type n → (kind (id_of type) ≡ Some type) × (has_content type ≡ false)
number_kind amqp.Boolean n x = absurd x
number_kind amqp.LongLongUInt n x = absurd x
number_kind amqp.DecimalValue n x = absurd x
number_kind amqp.ShortString n x = absurd x
number_kind amqp.LongString n x = absurd x
number_kind amqp.FieldArray n x = absurd x
number_kind amqp.FieldTable n x = absurd x
number_kind amqp.ByteArray n x = absurd x
number_kind amqp.Void n x = absurd x
number_kind _ n x = (refl, refl)

scalar_kind : (x : Scalar) → IsScalar x → (kind (id_of (scalar_type x)) ≡ Some (scalar_type x)) × (has_content (scalar_type x) ≡ false)
scalar_kind (boolean b) is = (refl, refl)
scalar_kind (number type n) is = number_kind type n is
scalar_kind (decimal scale n) is = (refl, refl)
scalar_kind void is = (refl, refl)

-- the type of a type tag of a value of fixed width
of_tag : (tag : ℕ) (s : IsScalarTag tag) → kind tag ≡ Some (scalar_type s.0)
of_tag tag s = ap kind s.2 ∙ (scalar_kind s.0 s.1).0

-- no such type tag: a byte that denotes no type, that of a type with a length, and an alternate tag
pub no_kind : (tag : ℕ) → kind tag ≡ None → IsScalarTag tag → ⊥
no_kind tag none s = let e = of_tag tag s in cc

pub with_content : (tag : ℕ) (type : AMQPType) → kind tag ≡ Some type → has_content type ≡ true → IsScalarTag tag → ⊥
with_content tag type is content s =
    let e : Some type ≡ Some (scalar_type s.0) = sym is ∙ of_tag tag s in
    let same : type ≡ scalar_type s.0 = cc in
    let none : has_content type ≡ false = ap has_content same ∙ (scalar_kind s.0 s.1).1 in cc

pub other_id : (tag : ℕ) (type : AMQPType) → kind tag ≡ Some type → (id_of type ≡ tag → ⊥) → IsScalarTag tag → ⊥
other_id tag type is other s =
    let e : Some type ≡ Some (scalar_type s.0) = sym is ∙ of_tag tag s in
    let same : type ≡ scalar_type s.0 = cc in
    other (ap id_of same ∙ sym s.2)

-- the type tag that is written for any other type
pub same_id : (tag : ℕ) (type : AMQPType) → has_content type ≡ false → read_as type ≡ Some type → id_of type ≡ tag → IsScalarTag tag
same_id tag amqp.Boolean c r is = (boolean false, tt, sym is)
same_id tag amqp.DecimalValue c r is = (decimal 0 0, (omega arith, omega arith), sym is)
same_id tag amqp.Void c r is = (void, tt, sym is)
same_id tag amqp.LongLongUInt c r is = absurd cc
same_id tag amqp.ShortString c r is = absurd cc
same_id tag amqp.LongString c r is = absurd cc
same_id tag amqp.FieldArray c r is = absurd cc
same_id tag amqp.FieldTable c r is = absurd cc
same_id tag amqp.ByteArray c r is = absurd cc
same_id tag type c r is = (number type 0, omega arith, sym is)

-- ---- bits

-- the bits of a number are those of the number that they denote
pub signed : (w : Width) (z : ℤ) → FitsSigned w z → cast_signed w (cast_unsigned w z) ≡ z
signed w z fits = to_z-of_z w z fits

-- what a conversion returned that succeeded
pub converted : {T E : Type 0} (r : Result T E) (o : Option T) (x v : T) (P : Type 0) → o ≡ Some x → o ≡ result_ok r → OkIff r P v → P × (x ≡ v)
converted (Ok y) o x v P is ok holds = let e : Some x ≡ Some y = sym is ∙ ok in let same : x ≡ y = cc in (holds.0, same ∙ holds.1)
converted (Err e) o x v P is ok holds = absurd cc

-- the bits of a number in a smaller width, and in 64 bits again
pub small_signed : (w : Width) (n : ℕ) (y z : ℤ) → n < 2 ^ 64 → y ≡ cast_signed w64 n
    → FitsSigned w (cast_signed w64 (cast_unsigned w64 y)) × (z ≡ cast_signed w64 (cast_unsigned w64 y))
    → (cast_unsigned w z < 2 ^ bits w) × (n ≡ cast_unsigned w64 (cast_signed w (cast_unsigned w z)))
small_signed w n y z lt is fits =
    let same : z ≡ cast_signed w64 n = fits.1 ∙ ap (cast_signed w64) (ap (cast_unsigned w64) is ∙ of_z-to_z w64 n lt) in
    let small : FitsSigned w z = subst (FitsSigned w) (sym fits.1) fits.0 in
    ((Fits-of_z {w = w} {z = z} small).fits, sym (of_z-to_z w64 n lt) ∙ ap (cast_unsigned w64) (sym same ∙ sym (to_z-of_z w z small)))

-- the number of a type is determined by its bits
pub number_determined : (type its : AMQPType) (n b scale : ℕ) (e payload : List ℕ) → type ≡ its → scale ≡ 0 → IsNumber its n → b ≡ bits_of_number its n
    → e ≡ id_of its ∷ payload → payload ≡ spelled (number its n) → (x : Scalar) × IsScalarOfType type b scale x × (e ≡ text (scalar x))
number_determined type its n b scale e payload typed zero range same written is =
    (number its n, record { in_range = range; same_type = sym typed; same_bits = same; same_scale = zero }, written ∙ ap (λ (t : List ℕ). id_of its ∷ t) is)

-- one byte, as it is written
pub one_byte : (n : ℕ) → n < 256 → n ∷ [] ≡ bytes_high_first 1 n
one_byte n small = ap (λ (m : ℕ). m ∷ []) (omega arith)

-- a decimal is its scale in a byte, and its number in four
pub decimal_written : (scale n : ℕ) (t e : List ℕ) → scale < 256 → t ≡ to_be_bytes w32 n
    → e ≡ 68 ∷ scale ∷ get_or t 0 0 ∷ get_or t 1 0 ∷ get_or t 2 0 ∷ get_or t 3 0 ∷ [] → e ≡ text (scalar (decimal scale n))
decimal_written scale n t e small is written =
    written
    ∙ (ap (λ (u : List ℕ). 68 ∷ scale ∷ get_or u 0 0 ∷ get_or u 1 0 ∷ get_or u 2 0 ∷ get_or u 3 0 ∷ []) is
    ∙ ap (λ (s : ℕ). 68 ∷ s ∷ bytes_high_first 4 n) (omega arith))

-- a boolean is its bit in a byte
pub false_written : (n : ℕ) (e : List ℕ) → n ≡ 0 → e ≡ 116 ∷ 0 ∷ [] → (x : Scalar) × IsScalarOfType amqp.Boolean n 0 x × (e ≡ text (scalar x))
false_written n e is written = (boolean false, record { in_range = tt; same_type = refl; same_bits = is; same_scale = refl }, written)

pub true_written : (n : ℕ) (e : List ℕ) → n ≡ 1 → e ≡ 116 ∷ 1 ∷ [] → (x : Scalar) × IsScalarOfType amqp.Boolean n 0 x × (e ≡ text (scalar x))
true_written n e is written = (boolean true, record { in_range = tt; same_type = refl; same_bits = is; same_scale = refl }, written)

-- nothing is read, and has no bits
pub void_read : (type : AMQPType) (s rest : List ℕ) (x : Number) → type ≡ amqp.Void → rest ≡ s → x.bits ≡ 0 → x.scale ≡ 0 → IsNumberPayload type s x rest
void_read type s rest x is same bits scale = rw (is, same) (void, void_found s, bits, scale)

-- ---- integers of entries

pub no_integer : (tag : ℕ) → (IsSignedTag tag → ⊥) → (IsUnsignedTag tag → ⊥) → IsIntegerTag tag → ⊥
no_integer tag first second (inl x) = first x
no_integer tag first second (inr x) = second x

pub signed_is : (e : Entry) (z : ℤ) → IsSignedTag e.tag → z ≡ cast_signed w64 e.bits → IsInteger e z
signed_is e z is same = inl (is, same)

pub unsigned_is : (e : Entry) (z : ℤ) → IsUnsignedTag e.tag → z ≡ pos e.bits → IsInteger e z
unsigned_is e z is same = inr (is, same)

-- a number that isn't negative is its magnitude
magnitude : (z : ℤ) (n : ℕ) → FitsUnsignedBits 64 z → n ≡ unsigned_abs z → pos n ≡ z
magnitude (pos m) n fits is = ap (λ (k : ℕ). pos k) is
magnitude (negsuc m) n fits is = absurd fits

pub uint_is : (e : Entry) (z : ℤ) (n : ℕ) → IsSignedTag e.tag → z ≡ cast_signed w64 e.bits → FitsUnsignedBits 64 z → n ≡ unsigned_abs z → IsInteger e (pos n)
uint_is e z n is same fits size = inl (is, magnitude z n fits size ∙ same)

-- an unsigned number that is too great for a signed one
pub too_great : (e : Entry) → (IsSignedTag e.tag → ⊥) → (FitsSigned w64 (pos e.bits) → ⊥) → ((z : ℤ) × IsInteger e z × FitsSigned w64 z) → ⊥
too_great e other big x = by x.1
  where
    by : IsInteger e x.0 → ⊥
    by (inl s) = other s.0
    by (inr u) = big (subst (FitsSigned w64) u.1 x.2)

-- a signed number that is below 0
pub below_0 : (e : Entry) (z : ℤ) → (IsUnsignedTag e.tag → ⊥) → e.bits < 2 ^ 64 → z ≡ cast_signed w64 e.bits → (FitsUnsignedBits 64 z → ⊥) → ((n : ℕ) × IsInteger e (pos n)) → ⊥
below_0 e z other lt same negative x = by x.1
  where
    by : IsInteger e (pos x.0) → ⊥
    by (inl s) =
        let is : x.0 ≡ e.bits = ap (cast_unsigned w64) s.1 ∙ of_z-to_z w64 e.bits lt in
        let fits : x.0 < 2 ^ 64 = omega (arith, is, lt) in
        negative (subst (FitsUnsignedBits 64) (s.1 ∙ sym same) fits)
    by (inr u) = other u.0
