-- Layouts: the payloads of fixed width, with numbers big-endian.
-- AMQP 0-9-1, section 4.2.5.1 (integers), 4.2.5.2 (bits), 4.2.5.5 (decimals).
use Rattle.std.specs.Prelude.{ℕ, List, [], ◌∷◌, ◌++◌, take, drop, Bool, true, false, Option, Some, None, ◌==◌, if◌then◌else◌}
use Rattle.std.specs.Int.{Width, w8, w16, w32, w64, byte_len, from_be_bytes, bytes_high_first}
use Rattle.amqp_value_core.specs.declared.types.amqp_type.AMQPType.{AMQPType}
use Rattle.amqp_value_core.specs.declared.types.amqp_type.AMQPType.TheVariants as amqp
use Rattle.amqp_value_core.specs.Values.{Scalar, boolean, number, decimal, void}

-- how many bytes a payload has, how many its first field has, and what they mean
pub record Layout : Type 0 where
  pub first : ℕ
  pub width : ℕ
  pub denotes : List ℕ → Scalar

-- 0 is false, every other number true
abbrev pub truth : ℕ → Bool
truth n = if n == 0 then false else true

-- a number in one field
abbrev pub whole_number : Width → AMQPType → Layout
whole_number w type = record { first = byte_len w; width = byte_len w; denotes = λ b. number type (from_be_bytes w b) }

-- The types of fixed width. A decimal has two fields, its scale and its number.
-- A LongLongUInt means the signed number of the same bits.
abbrev pub fixed : AMQPType → Option Layout
fixed amqp.Boolean = Some (record { first = 1; width = 1; denotes = λ b. boolean (truth (from_be_bytes w8 b)) })
fixed amqp.ShortShortInt = Some (whole_number w8 amqp.ShortShortInt)
fixed amqp.ShortShortUInt = Some (whole_number w8 amqp.ShortShortUInt)
fixed amqp.ShortInt = Some (whole_number w16 amqp.ShortInt)
fixed amqp.ShortUInt = Some (whole_number w16 amqp.ShortUInt)
fixed amqp.LongInt = Some (whole_number w32 amqp.LongInt)
fixed amqp.LongUInt = Some (whole_number w32 amqp.LongUInt)
fixed amqp.LongLongInt = Some (whole_number w64 amqp.LongLongInt)
fixed amqp.LongLongUInt = Some (whole_number w64 amqp.LongLongInt)
fixed amqp.Float = Some (whole_number w32 amqp.Float)
fixed amqp.Double = Some (whole_number w64 amqp.Double)
fixed amqp.Timestamp = Some (whole_number w64 amqp.Timestamp)
fixed amqp.DecimalValue = Some (record { first = 1; width = 5; denotes = λ b. decimal (from_be_bytes w8 (take 1 b)) (from_be_bytes w32 (drop 1 b)) })
fixed amqp.Void = Some (record { first = 0; width = 0; denotes = λ b. void })
fixed _ = None

-- the bytes of a layout, 0 if there is no layout
abbrev pub width_in : Option Layout → ℕ
width_in (Some f) = f.width
width_in None = 0

-- the bytes of a type of fixed width, 0 for any other
abbrev pub width_of : AMQPType → ℕ
width_of type = width_in (fixed type)

-- the bytes that are written for it: true is 1
abbrev pub spelled : Scalar → List ℕ
spelled (boolean true) = 1 ∷ []
spelled (boolean false) = 0 ∷ []
spelled (number type n) = bytes_high_first (width_of type) n
spelled (decimal scale n) = bytes_high_first 1 scale ++ bytes_high_first 4 n
spelled void = []
