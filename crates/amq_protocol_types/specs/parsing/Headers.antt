-- What a value's type tag and length field determine: its `extent`, how many bytes it has at least,
-- and `wanted`, how many more the field that is being read needs.
use Rattle.std.specs.Prelude.{ℕ, suc, ◌+◌, ◌<◌, ◌≤◌, ◌≡◌, Option, Some, None, MatchOption, List, [], ◌∷◌, length, take, nat_lt, if◌then◌else◌}
use Rattle.std.specs.Int.{Width, byte_len}
use Rattle.amqp_value_core.specs.declared.types.amqp_type.AMQPType.{AMQPType}
use Rattle.amqp_value_core.specs.Ids.{kind}
use Rattle.amqp_value_core.specs.Layouts.{Layout, fixed}
use Rattle.amqp_value_core.specs.Outcomes.{length_field, counted, lack}

-- How many bytes a payload has at least: those of its fields, or of its length field.
-- Once the length field is complete, what it counts is included.
abbrev pub extent_of : Option Layout → Width → List ℕ → ℕ
extent_of (Some f) w b = f.width
extent_of None w b = if nat_lt (length b) (byte_len w) then byte_len w else byte_len w + counted w b

abbrev pub raw_extent : AMQPType → List ℕ → ℕ
raw_extent type b = extent_of (fixed type) (length_field type) b

-- and a value, by what its type tag denotes
abbrev pub extent_at : Option AMQPType → List ℕ → ℕ
extent_at None b = 0
extent_at (Some type) b = suc (raw_extent type b)

-- how many bytes the value at the start has at least; 0 if there is no type tag
abbrev pub extent : List ℕ → ℕ
extent [] = 0
extent (c ∷ b) = extent_at (kind c) b

-- how many more bytes are needed after a type tag
abbrev pub wanted_at : Option AMQPType → List ℕ → ℕ
wanted_at None b = 0
wanted_at (Some type) b = lack type b

-- How many more bytes are needed for the field that is being read: 1 if there is no byte.
-- None is needed if the first isn't a type tag, or the bytes of the payload are all there.
abbrev pub wanted : List ℕ → ℕ
wanted [] = 1
wanted (c ∷ b) = wanted_at (kind c) b

-- the first byte is a type tag, and the bytes of its payload are all there
abbrev pub IsWholeValue : List ℕ → Type 0
IsWholeValue [] = ⊥
IsWholeValue (c ∷ b) = MatchOption (kind c) ⊥ (λ type. lack type b ≡ 0)

-- how many bytes the first field of a payload has
abbrev pub first_of : Option Layout → Width → ℕ
first_of (Some f) w = f.first
first_of None w = byte_len w

-- every shorter prefix of s asks for more, and is of a value within the limit `frame`
abbrev pub IsWaiting : ℕ → List ℕ → Type 0
IsWaiting frame s = (n : ℕ) → n < length s → (0 < wanted (take n s)) × (extent (take n s) ≤ frame)
