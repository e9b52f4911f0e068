-- The tree that an `AMQPValue` denotes: its variant, with each content as its number or its bytes, and
-- each value in it as its tree, in the order of the array or of the table's keys.
use Rattle.std.specs.Prelude.{ℕ, List, map}
use Rattle.std.specs.Int.{w8, w16, w32, w64, cast_unsigned}
use Rattle.amqp_value_core.specs.declared.types.float.Float.{Float}
use Rattle.amqp_value_core.specs.declared.types.double.Double.{Double}
use Rattle.amqp_value_core.specs.declared.types.long_string.LongString.{LongString}
use Rattle.amqp_value_core.specs.declared.types.byte_array.ByteArray.{ByteArray}
use Rattle.amqp_value_core.specs.declared.types.amqp_type.AMQPType.TheVariants as amqp
use Rattle.amqp_value_core.specs.declared.types.field_array.FieldArray.{FieldArray}
use Rattle.amqp_value_core.specs.declared.types.field_table.FieldTable.{FieldTable}
use Rattle.amqp_value_core.specs.declared.value.AMQPValue.{AMQPValue, fold-AMQPValue}
use Rattle.amqp_value_core.specs.declared.value.AMQPValue.TheOpen.{AMQPValue-F, FieldArray-F, FieldTable-F}
use Rattle.amqp_value_core.specs.Values.{boolean, number, decimal, void, Tree, scalar, short, long, octets, array, table, Trees, trees_of, Entries, entries_of}

-- the bits of a Float, as a number of 32 bits
abbrev pub float_bits : Float → ℕ
float_bits f = f.bits

-- the bits of a Double, as a number of 64 bits
abbrev pub double_bits : Double → ℕ
double_bits f = f.bits

-- the bytes of a long string
abbrev pub long_bytes : LongString → List ℕ
long_bytes s = s.bytes.items

-- the bytes of a byte array
abbrev pub octets_of : ByteArray → List ℕ
octets_of a = a.bytes.items

-- one level, with each value inside already viewed as its tree
abbrev pub view_step : AMQPValue-F Tree Trees Entries → Tree
view_step (AMQPValue-F.Boolean b) = scalar (boolean b)
view_step (AMQPValue-F.ShortShortInt z) = scalar (number amqp.ShortShortInt (cast_unsigned w8 z))
view_step (AMQPValue-F.ShortShortUInt n) = scalar (number amqp.ShortShortUInt n)
view_step (AMQPValue-F.ShortInt z) = scalar (number amqp.ShortInt (cast_unsigned w16 z))
view_step (AMQPValue-F.ShortUInt n) = scalar (number amqp.ShortUInt n)
view_step (AMQPValue-F.LongInt z) = scalar (number amqp.LongInt (cast_unsigned w32 z))
view_step (AMQPValue-F.LongUInt n) = scalar (number amqp.LongUInt n)
view_step (AMQPValue-F.LongLongInt z) = scalar (number amqp.LongLongInt (cast_unsigned w64 z))
view_step (AMQPValue-F.Float f) = scalar (number amqp.Float (float_bits f))
view_step (AMQPValue-F.Double f) = scalar (number amqp.Double (double_bits f))
view_step (AMQPValue-F.DecimalValue d) = scalar (decimal d.scale d.value)
view_step (AMQPValue-F.ShortString s) = short s
view_step (AMQPValue-F.LongString s) = long (long_bytes s)
view_step (AMQPValue-F.FieldArray vs) = array vs
view_step (AMQPValue-F.Timestamp n) = scalar (number amqp.Timestamp n)
view_step (AMQPValue-F.FieldTable es) = table es
view_step (AMQPValue-F.ByteArray s) = octets (octets_of s)
view_step AMQPValue-F.Void = scalar void

abbrev pub array_step : FieldArray-F Tree Trees Entries → Trees
array_step a = trees_of a.items.items

abbrev pub table_step : FieldTable-F Tree Trees Entries → Entries
table_step t = entries_of t.map.entries

-- the tree of a value
abbrev pub view : AMQPValue → Tree
view = fold-AMQPValue Tree Trees Entries view_step array_step table_step
