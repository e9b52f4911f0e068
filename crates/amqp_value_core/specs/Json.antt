-- `json`: which value a JSON value becomes for a given type; `AMQPValue::try_from` returns it.
use Rattle.std.specs.Prelude.{◌≡◌, ℕ, ◌<◌, ◌^◌, ℤ, pos, negsuc, Bool, nat_lt, nat_le, Option, Some, None, option_map, option_and_then, List, length, if◌then◌else◌}
use Rattle.std.specs.Int.{w8, w16, w32, w64, cast_unsigned}
use Rattle.serde_json.specs.Data.{Data}
use Rattle.serde_json.specs.Find.{as_null, as_bool, as_number, as_i64, as_u64, as_str}
use Rattle.amqp_value_core.specs.declared.types.amqp_type.AMQPType.{AMQPType}
use Rattle.amqp_value_core.specs.declared.types.amqp_type.AMQPType.TheVariants as amqp
use Rattle.amqp_value_core.specs.Values.{boolean, number, void, Tree, scalar, short, long}

-- The integer that the JSON value is, if a signed number of 64 bits holds it, and if an unsigned
-- one does. A number with a point or an exponent isn't an integer.
abbrev pub signed : Data → Option ℤ
signed d = option_and_then as_i64 (as_number d)

abbrev pub unsigned : Data → Option ℕ
unsigned d = option_and_then as_u64 (as_number d)

-- whether z is from -half to half - 1; negsuc n is -(n + 1)
abbrev pub is_within : ℕ → ℤ → Bool
is_within half (pos n) = nat_lt n half
is_within half (negsuc n) = nat_lt n half

-- the integer, if it is in that range
abbrev pub signed_within : ℕ → Data → Option ℤ
signed_within half d = option_and_then (λ z. if is_within half z then Some z else None) (signed d)

-- the integer, if it is below the limit
abbrev pub unsigned_below : ℕ → Data → Option ℕ
unsigned_below limit d = option_and_then (λ n. if nat_lt n limit then Some n else None) (unsigned d)

-- the string's bytes, if it is a string of at most 255
abbrev pub short_text : Data → Option (List ℕ)
short_text d = option_and_then (λ s. if nat_le (length s) 255 then Some s else None) (as_str d)

-- the value of the type; of a LongLongUInt it is the signed number of the same bits
abbrev pub json : Data → AMQPType → Option Tree
json d amqp.Boolean = option_map (λ b. scalar (boolean b)) (as_bool d)
json d amqp.ShortShortInt = option_map (λ z. scalar (number amqp.ShortShortInt (cast_unsigned w8 z))) (signed_within (2 ^ 7) d)
json d amqp.ShortShortUInt = option_map (λ n. scalar (number amqp.ShortShortUInt n)) (unsigned_below (2 ^ 8) d)
json d amqp.ShortInt = option_map (λ z. scalar (number amqp.ShortInt (cast_unsigned w16 z))) (signed_within (2 ^ 15) d)
json d amqp.ShortUInt = option_map (λ n. scalar (number amqp.ShortUInt n)) (unsigned_below (2 ^ 16) d)
json d amqp.LongInt = option_map (λ z. scalar (number amqp.LongInt (cast_unsigned w32 z))) (signed_within (2 ^ 31) d)
json d amqp.LongUInt = option_map (λ n. scalar (number amqp.LongUInt n)) (unsigned_below (2 ^ 32) d)
json d amqp.LongLongInt = option_map (λ z. scalar (number amqp.LongLongInt (cast_unsigned w64 z))) (signed d)
json d amqp.LongLongUInt = option_map (λ n. scalar (number amqp.LongLongInt n)) (unsigned d)
json d amqp.Timestamp = option_map (λ n. scalar (number amqp.Timestamp n)) (unsigned d)
json d amqp.ShortString = option_map short (short_text d)
json d amqp.LongString = option_map long (as_str d)
json d amqp.Void = option_map (λ none. scalar void) (as_null d)
json d _ = None

-- the string that is copied for the value
abbrev pub copied : Data → AMQPType → Option (List ℕ)
copied d amqp.ShortString = short_text d
copied d amqp.LongString = as_str d
copied d _ = None

-- a string is copied that isn't empty: what allocates
abbrev pub JsonAllocates : Data → AMQPType → Type 0
JsonAllocates d type = (s : List ℕ) × (copied d type ≡ Some s) × (0 < length s)
