-- `payload_extent`, how many bytes a payload has, and `lack`, how many are missing, are known from
-- its type or its length field only.
use Rattle.std.proofs.Common.{◌≡◌, ℕ, ◌+◌, ◌-◌, ◌^◌, ◌<◌, ◌≤◌, List, ◌++◌, length, Option, Some, None, refl, sym, ap, ◌∙◌, arith, inl, inr, length-append}
use Rattle.std.specs.Int.{Width, w8, w32, byte_len}
use Rattle.std.specs.Option.{IfSome}
use Rattle.std.proofs.lemmas.Bool.{cases_lt, lt-ltb, le-ltb}
use Rattle.std.proofs.lemmas.List.{take-append-le}
use Rattle.std.proofs.lemmas.Nat.{from_be_bytes-to_be_bytes_4}
use Rattle.amqp_value_core.specs.declared.types.amqp_type.AMQPType.{AMQPType}
use Rattle.amqp_value_core.specs.declared.types.amqp_type.AMQPType.TheVariants as amqp
use Rattle.amqp_value_core.specs.Values.{Tree}
use Rattle.amqp_value_core.specs.Layouts.{Layout, fixed}
use Rattle.amqp_value_core.specs.Bytes.{IsShort}
use Rattle.amqp_value_core.specs.Grammar.{short_field, long_field, Wire, wire, Raw, raw_fixed, raw_short, raw_long, raw_octets, raw_array, raw_table}
use Rattle.amqp_value_core.specs.Outcomes.{length_field, counted, frame_lack, fields_lack, lack_of, lack}

-- how many bytes a payload of the layout has, or one with a length field
abbrev pub payload_extent_of : Option Layout → Width → List ℕ → ℕ
payload_extent_of (Some f) w b = f.width
payload_extent_of None w b = byte_len w + counted w b

-- how many bytes a payload of the type has, by the header only
abbrev pub payload_extent : AMQPType → List ℕ → ℕ
payload_extent type b = payload_extent_of (fixed type) (length_field type) b

-- the first field of a layout is within it
abbrev pub FirstWithin : Option Layout → Type 0
FirstWithin o = IfSome o (λ f. f.first ≤ f.width)

-- so it is in every line of the table
pub first_within : (type : AMQPType) → FirstWithin (fixed type)
first_within amqp.ShortString = tt
first_within amqp.LongString = tt
first_within amqp.ByteArray = tt
first_within amqp.FieldArray = tt
first_within amqp.FieldTable = tt
first_within _ = omega arith

-- what is missing of a first field that is cut short
pub fields_lack_cut : (f : Layout) (b : List ℕ) → length b < f.first → fields_lack f b ≡ f.first - length b
fields_lack_cut f b lt = rw (lt-ltb (length b) f.first lt) refl

-- what is missing of the fields if the first one is complete
pub fields_lack_known : (f : Layout) (b : List ℕ) → f.first ≤ length b → fields_lack f b ≡ f.width - length b
fields_lack_known f b le = rw (le-ltb (length b) f.first le) refl

-- what is missing of a length field that is cut short
pub frame_lack_cut : (w : Width) (b : List ℕ) → length b < byte_len w → frame_lack w b ≡ byte_len w - length b
frame_lack_cut w b lt = rw (lt-ltb (length b) (byte_len w) lt) refl

-- what is missing of a length-prefixed field if its length field is complete
pub frame_lack_known : (w : Width) (b : List ℕ) → byte_len w ≤ length b → frame_lack w b ≡ byte_len w + counted w b - length b
frame_lack_known w b le = rw (le-ltb (length b) (byte_len w) le) refl

-- bytes after a complete length field don't change its number
pub counted-append : (w : Width) (b t : List ℕ) → byte_len w ≤ length b → counted w (b ++ t) ≡ counted w b
counted-append w b t le = rw (take-append-le (byte_len w) b t le) refl

-- a length-prefixed field with no byte missing reaches its extent
pub payload_extent_of-whole : (o : Option Layout) (w : Width) (b : List ℕ) → lack_of o w b ≡ 0 → payload_extent_of o w b ≤ length b
payload_extent_of-whole (Some f) w b e = elim (cases_lt (length b) f.first) [
  | inl cut ↦ absurd (omega (arith, fields_lack_cut f b cut))
  | inr known ↦ omega (arith, fields_lack_known f b known)
]
payload_extent_of-whole None w b e = elim (cases_lt (length b) (byte_len w)) [
  | inl cut ↦ absurd (omega (arith, frame_lack_cut w b cut))
  | inr known ↦ omega (arith, frame_lack_known w b known)
]

-- a length-prefixed field that reaches its extent has no byte missing
pub lack_of-none : (o : Option Layout) (w : Width) (b : List ℕ) → FirstWithin o → payload_extent_of o w b ≤ length b → lack_of o w b ≡ 0
lack_of-none (Some f) w b within le = omega (arith, fields_lack_known f b (omega arith))
lack_of-none None w b within le = omega (arith, frame_lack_known w b (omega arith))

-- more bytes after a complete length-prefixed field don't change its extent
pub payload_extent_of-append : (o : Option Layout) (w : Width) (b t : List ℕ) → lack_of o w b ≡ 0 → payload_extent_of o w (b ++ t) ≡ payload_extent_of o w b
payload_extent_of-append (Some f) w b t e = refl
payload_extent_of-append None w b t e = ap (λ n. byte_len w + n) (counted-append w b t (omega (arith, payload_extent_of-whole None w b e)))

-- of a field with fewer bytes than are missing, the others are missing
lack_of-append : (o : Option Layout) (w : Width) (b t : List ℕ) → length t < lack_of o w b → lack_of o w (b ++ t) ≡ lack_of o w b - length t
lack_of-append (Some f) w b t lt = elim (cases_lt (length b) f.first) [
  | inl cut ↦
      let first = fields_lack_cut f b cut in
      omega (arith, first, length-append b t, fields_lack_cut f (b ++ t) (omega (arith, first, length-append b t)))
  | inr known ↦
      omega (arith, length-append b t, fields_lack_known f b known, fields_lack_known f (b ++ t) (omega (arith, length-append b t)))
]
lack_of-append None w b t lt = elim (cases_lt (length b) (byte_len w)) [
  | inl cut ↦
      let whole = frame_lack_cut w b cut in
      omega (arith, whole, length-append b t, frame_lack_cut w (b ++ t) (omega (arith, whole, length-append b t)))
  | inr known ↦
      omega (arith, length-append b t, counted-append w b t known, frame_lack_known w b known, frame_lack_known w (b ++ t) (omega (arith, length-append b t)))
]

-- a complete length-prefixed field reaches its extent
pub payload_extent-whole : (type : AMQPType) (b : List ℕ) → lack type b ≡ 0 → payload_extent type b ≤ length b
payload_extent-whole type b e = payload_extent_of-whole (fixed type) (length_field type) b e

-- a length-prefixed field that reaches its extent is complete
lack-none : (type : AMQPType) (b : List ℕ) → payload_extent type b ≤ length b → lack type b ≡ 0
lack-none type b le = lack_of-none (fixed type) (length_field type) b (first_within type) le

-- more bytes after a complete length-prefixed field don't change its extent
pub payload_extent-append : (type : AMQPType) (b t : List ℕ) → lack type b ≡ 0 → payload_extent type (b ++ t) ≡ payload_extent type b
payload_extent-append type b t e = payload_extent_of-append (fixed type) (length_field type) b t e

-- a complete length-prefixed field stays complete
pub lack-whole : (type : AMQPType) (b t : List ℕ) → lack type b ≡ 0 → lack type (b ++ t) ≡ 0
lack-whole type b t e =
    lack-none type (b ++ t) (omega (arith, payload_extent-append type b t e, payload_extent-whole type b e, length-append b t))

-- after fewer bytes than are missing, the others are missing
pub lack-append : (type : AMQPType) (b t : List ℕ) → length t < lack type b → lack type (b ++ t) ≡ lack type b - length t
lack-append type b t lt = lack_of-append (fixed type) (length_field type) b t lt

-- the number before counted bytes is how many they are
pub counted-long_field : (s rest : List ℕ) → length s < 2 ^ 32 → counted w32 (long_field s ++ rest) ≡ length s
counted-long_field s rest fits = from_be_bytes-to_be_bytes_4 (length s) fits

counted-short_field : (s rest : List ℕ) → IsShort s → counted w8 (short_field s ++ rest) ≡ length s
counted-short_field s rest is = omega (arith, is.few)

-- bytes after their length are a complete length-prefixed field
pub lack_of-long_field : (s rest : List ℕ) → length s < 2 ^ 32 → lack_of None w32 (long_field s ++ rest) ≡ 0
lack_of-long_field s rest fits = lack_of-none None w32 (long_field s ++ rest) tt (omega (arith, counted-long_field s rest fits, length-append s rest))

-- the extent of a payload is its length, whatever follows
pub payload_extent-raw : (type : AMQPType) (b rest : List ℕ) (v : Tree) → Raw type b v → payload_extent type (b ++ rest) ≡ length b
payload_extent-raw _ _ rest _ (raw_fixed type f b row len) = ap (λ (o : Option Layout). payload_extent_of o (length_field type) (b ++ rest)) row ∙ sym len
payload_extent-raw _ _ rest _ (raw_short s is) = omega (arith, counted-short_field s rest is)
payload_extent-raw _ _ rest _ (raw_long s fits) = omega (arith, counted-long_field s rest fits)
payload_extent-raw _ _ rest _ (raw_octets s fits) = omega (arith, counted-long_field s rest fits)
payload_extent-raw _ _ rest _ (raw_array body vs fits all) = omega (arith, counted-long_field body rest fits)
payload_extent-raw _ _ rest _ (raw_table body ps es fits all mean) = omega (arith, counted-long_field body rest fits)

-- the length-prefixed field of a payload is complete, whatever follows
pub lack-raw : (type : AMQPType) (b rest : List ℕ) (v : Tree) → Raw type b v → lack type (b ++ rest) ≡ 0
lack-raw type b rest v p = lack-none type (b ++ rest) (omega (arith, payload_extent-raw type b rest v p, length-append b rest))

-- an encoding has its type tag
pub length-wire : (w : List ℕ) (v : Tree) → Wire w v → 0 < length w
length-wire _ _ (wire c type b v k p) = omega arith
