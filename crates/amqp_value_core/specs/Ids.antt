-- Type tags: `kind` is the type that a tag denotes, and `id_of` the tag that is written for a type.
-- A tag is the byte before a payload, the code of an ASCII character.
-- AMQP 0-9-1, section 4.2.1 (`field-value`), with the type tags of RabbitMQ's errata, section 3.
use Rattle.std.specs.Prelude.{ℕ, List, [], ◌∷◌, nat_eq, Option}
use Rattle.std.specs.Map.{lookup}
use Rattle.amqp_value_core.specs.declared.types.amqp_type.AMQPType.{AMQPType}
use Rattle.amqp_value_core.specs.declared.types.amqp_type.AMQPType.TheVariants as amqp

-- the type tags that are read, each with its type; `U` and `L` are alternate tags
abbrev pub letters : List (ℕ × AMQPType)
letters =
    (116, amqp.Boolean)  -- t
    ∷ (98, amqp.ShortShortInt)  -- b
    ∷ (66, amqp.ShortShortUInt)  -- B
    ∷ (115, amqp.ShortInt)  -- s
    ∷ (85, amqp.ShortInt)  -- U
    ∷ (117, amqp.ShortUInt)  -- u
    ∷ (73, amqp.LongInt)  -- I
    ∷ (105, amqp.LongUInt)  -- i
    ∷ (108, amqp.LongLongInt)  -- l
    ∷ (76, amqp.LongLongInt)  -- L
    ∷ (102, amqp.Float)  -- f
    ∷ (100, amqp.Double)  -- d
    ∷ (68, amqp.DecimalValue)  -- D
    ∷ (83, amqp.LongString)  -- S
    ∷ (65, amqp.FieldArray)  -- A
    ∷ (84, amqp.Timestamp)  -- T
    ∷ (70, amqp.FieldTable)  -- F
    ∷ (120, amqp.ByteArray)  -- x
    ∷ (86, amqp.Void)  -- V
    ∷ []

-- the type that a byte denotes; a byte that isn't in the table denotes no type
abbrev pub kind : ℕ → Option AMQPType
kind c = lookup (nat_eq c) letters

-- the type tag that is written for a type; that of a short string, `_`, isn't read
abbrev pub id_of : AMQPType → ℕ
id_of amqp.Boolean = 116
id_of amqp.ShortShortInt = 98
id_of amqp.ShortShortUInt = 66
id_of amqp.ShortInt = 115
id_of amqp.ShortUInt = 117
id_of amqp.LongInt = 73
id_of amqp.LongUInt = 105
id_of amqp.LongLongInt = 108
id_of amqp.LongLongUInt = 108
id_of amqp.Float = 102
id_of amqp.Double = 100
id_of amqp.DecimalValue = 68
id_of amqp.ShortString = 95
id_of amqp.LongString = 83
id_of amqp.FieldArray = 65
id_of amqp.Timestamp = 84
id_of amqp.FieldTable = 70
id_of amqp.ByteArray = 120
id_of amqp.Void = 86
