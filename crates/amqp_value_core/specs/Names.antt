-- `name_of`: what a type is called. `read_as`: which type is read if its type tag was written.
use Rattle.std.specs.Prelude.{ℕ, List, codes, Option, Some, None}
use Rattle.amqp_value_core.specs.declared.types.amqp_type.AMQPType.{AMQPType}
use Rattle.amqp_value_core.specs.declared.types.amqp_type.AMQPType.TheVariants as amqp

-- the type that is read if a type's tag was written: a short string's isn't one that is read
abbrev pub read_as : AMQPType → Option AMQPType
read_as amqp.LongLongUInt = Some amqp.LongLongInt
read_as amqp.ShortString = None
read_as type = Some type

-- the name of a type
abbrev pub name_of : AMQPType → List ℕ
name_of amqp.Boolean = codes "Boolean"
name_of amqp.ShortShortInt = codes "ShortShortInt"
name_of amqp.ShortShortUInt = codes "ShortShortUInt"
name_of amqp.ShortInt = codes "ShortInt"
name_of amqp.ShortUInt = codes "ShortUInt"
name_of amqp.LongInt = codes "LongInt"
name_of amqp.LongUInt = codes "LongUInt"
name_of amqp.LongLongInt = codes "LongLongInt"
name_of amqp.LongLongUInt = codes "LongLongUInt"
name_of amqp.Float = codes "Float"
name_of amqp.Double = codes "Double"
name_of amqp.DecimalValue = codes "DecimalValue"
name_of amqp.ShortString = codes "ShortString"
name_of amqp.LongString = codes "LongString"
name_of amqp.FieldArray = codes "FieldArray"
name_of amqp.Timestamp = codes "Timestamp"
name_of amqp.FieldTable = codes "FieldTable"
name_of amqp.ByteArray = codes "ByteArray"
name_of amqp.Void = codes "Void"
