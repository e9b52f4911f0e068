-- Values of fixed width as an entry has them: their bits, their scale, and integers.
use Rattle.std.specs.Prelude.{ℕ, if◌then◌else◌, ◌≡◌, ◌+◌, List, length, ℤ, pos, FitsSigned, ◌⊎◌}
use Rattle.std.specs.Int.{w8, w16, w32, w64, cast_signed, cast_unsigned}
use Rattle.amqp_value_core.specs.declared.types.amqp_type.AMQPType.{AMQPType}
use Rattle.amqp_value_core.specs.declared.types.amqp_type.AMQPType.TheVariants as amqp
use Rattle.amqp_value_core.specs.Values.{Tree, Scalar, boolean, number, decimal, void, scalar}
use Rattle.amqp_value_core.specs.Outcomes.{RawOutcome, Outcome, found}
use Rattle.amqp_c.specs.declared.entry.Number.{Number}
use Rattle.amqp_c.specs.declared.entry.Fixed.{Fixed}
use Rattle.amqp_c.specs.declared.fault.Fault.{Fault}
use Rattle.amqp_c.specs.declared.fault.Fault.TheVariants.{BadTag, OutOfRange}
use Rattle.amqp_c.specs.declared.entry.Entry.{Entry}

-- ---- bits and scale

-- a number in 64 bits: a signed one in two's complement, and the bits of every other as they are
abbrev pub bits_of_number : AMQPType → ℕ → ℕ
bits_of_number amqp.ShortShortInt n = cast_unsigned w64 (cast_signed w8 n)
bits_of_number amqp.ShortInt n = cast_unsigned w64 (cast_signed w16 n)
bits_of_number amqp.LongInt n = cast_unsigned w64 (cast_signed w32 n)
bits_of_number _ n = n

-- a boolean is 0 or 1, and a decimal has its number
abbrev pub scalar_bits : Scalar → ℕ
scalar_bits (boolean b) = if b then 1 else 0
scalar_bits (number type n) = bits_of_number type n
scalar_bits (decimal scale n) = n
scalar_bits void = 0

abbrev pub bits_in : Tree → ℕ
bits_in (scalar x) = scalar_bits x
bits_in _ = 0

-- how many digits of a decimal are after the point
abbrev pub scalar_scale : Scalar → ℕ
scalar_scale (decimal scale n) = scale
scalar_scale _ = 0

abbrev pub scale_in : Tree → ℕ
scale_in (scalar x) = scalar_scale x
scale_in _ = 0

-- a value is read from the start of s: it has that many bytes, these bits and this scale
abbrev pub IsFixed : List ℕ → Fixed → Type 0
IsFixed s x = (v : Tree) × (rest : List ℕ) × Outcome s (found v rest) × (x.length + length rest ≡ length s) × (x.bits ≡ bits_in v) × (x.scale ≡ scale_in v)

-- a value of the type is read from s, and has these bits and this scale
abbrev pub IsNumberPayload : AMQPType → List ℕ → Number → List ℕ → Type 0
IsNumberPayload type s x rest = (v : Scalar) × RawOutcome type s (found (scalar v) rest) × (x.bits ≡ scalar_bits v) × (x.scale ≡ scalar_scale v)

-- ---- integers

-- the type tags of signed numbers, `b`, `s`, `I` and `l`, and of unsigned ones, `B`, `u` and `i`
abbrev pub IsSignedTag : ℕ → Type 0
IsSignedTag tag = (tag ≡ 98) ⊎ (tag ≡ 115) ⊎ (tag ≡ 73) ⊎ (tag ≡ 108)

abbrev pub IsUnsignedTag : ℕ → Type 0
IsUnsignedTag tag = (tag ≡ 66) ⊎ (tag ≡ 117) ⊎ (tag ≡ 105)

-- the type tag of an integer
abbrev pub IsIntegerTag : ℕ → Type 0
IsIntegerTag tag = IsSignedTag tag ⊎ IsUnsignedTag tag

-- z is the integer of the entry: a signed one by its bits in two's complement
abbrev pub IsInteger : Entry → ℤ → Type 0
IsInteger e z = (IsSignedTag e.tag × (z ≡ cast_signed w64 e.bits)) ⊎ (IsUnsignedTag e.tag × (z ≡ pos e.bits))

-- a fault is right: the type tag isn't of the kind, or the number is out of range
abbrev pub RefusesGet : Type 0 → Type 0 → Fault → Type 0
RefusesGet kind in_range BadTag = kind → ⊥
RefusesGet kind in_range OutOfRange = kind × (in_range → ⊥)
RefusesGet kind in_range _ = ⊥

-- a fault of an integer is right: as a signed one of 64 bits, and as an unsigned one
abbrev pub RefusesInt : Entry → Fault → Type 0
RefusesInt e = RefusesGet (IsIntegerTag e.tag) ((z : ℤ) × IsInteger e z × FitsSigned w64 z)

abbrev pub RefusesUint : Entry → Fault → Type 0
RefusesUint e = RefusesGet (IsIntegerTag e.tag) ((n : ℕ) × IsInteger e (pos n))
