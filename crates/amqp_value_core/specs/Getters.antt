-- What the getters return, as `number_in` for `as_long_int`: what a value of that type holds, or
-- `None` for any other.
use Rattle.std.specs.Prelude.{ℕ, Bool, true, false, Option, Some, None, List, ◌==◌, if◌then◌else◌}
use Rattle.amqp_value_core.specs.declared.types.amqp_type.AMQPType.{AMQPType}
use Rattle.amqp_value_core.specs.Values.{boolean, number, decimal, void, Tree, scalar, short, long, octets, array, table, Trees, Entries}
use Rattle.amqp_value_core.specs.Equality.{place_of}

-- the boolean
abbrev pub truth_in : Tree → Option Bool
truth_in (scalar (boolean b)) = Some b
truth_in _ = None

-- The bits of a number of the type.
-- A signed number is in two's complement, a Float's and a Double's bits are as they are.
abbrev pub number_in : AMQPType → Tree → Option ℕ
number_in type (scalar (number own n)) = if place_of type == place_of own then Some n else None
number_in type _ = None

-- a decimal's scale and its number
abbrev pub decimal_in : Tree → Option (ℕ × ℕ)
decimal_in (scalar (decimal scale n)) = Some (scale, n)
decimal_in _ = None

-- the bytes of a short string
abbrev pub short_in : Tree → Option (List ℕ)
short_in (short s) = Some s
short_in _ = None

-- the bytes of a long string
abbrev pub long_in : Tree → Option (List ℕ)
long_in (long s) = Some s
long_in _ = None

-- the bytes of a byte array
abbrev pub octets_in : Tree → Option (List ℕ)
octets_in (octets s) = Some s
octets_in _ = None

-- the values of an array
abbrev pub array_in : Tree → Option Trees
array_in (array vs) = Some vs
array_in _ = None

-- the entries of a table
abbrev pub table_in : Tree → Option Entries
table_in (table es) = Some es
table_in _ = None

-- whether there is no value
abbrev pub is_void : Tree → Bool
is_void (scalar void) = true
is_void _ = false
