-- `Denotes`: the tree of the value that a `ValueRef` refers to; and the bytes of the body of an
-- `ArrayRef` or a `TableRef`.
use Rattle.std.specs.Prelude.{ℕ, ◌≡◌, ◌<◌, List, length, Option, Some, None}
use Rattle.std.specs.Int.{w8, w16, w32, w64, cast_unsigned}
use Rattle.amqp_value_core.specs.declared.types.amqp_type.AMQPType.TheVariants as amqp
use Rattle.amqp_value_core.specs.View.{float_bits, double_bits}
use Rattle.amqp_value_core.specs.Values.{Tree, Trees, Entries, scalar, boolean, number, decimal, void, long, octets, array, table}
use Rattle.amqp_value_core.specs.Grammar.{ArrayBody}
use Rattle.amqp_value_core.specs.Bytes.{slice_bytes}
use Rattle.amqp_in_place.specs.Bodies.{HasEntries}
use Rattle.amqp_in_place.specs.declared.refs.ArrayRef.{ArrayRef}
use Rattle.amqp_in_place.specs.declared.refs.TableRef.{TableRef}
use Rattle.amqp_in_place.specs.declared.refs.ValueRef.{ValueRef}
use Rattle.amqp_in_place.specs.declared.refs.ValueRef.TheVariants as at

-- the bytes of the body
abbrev pub array_body : ArrayRef → List ℕ
array_body a = slice_bytes a.body

abbrev pub table_body : TableRef → List ℕ
table_body t = slice_bytes t.body

-- the tree of a value that isn't a container
abbrev pub plain_tree : ValueRef → Tree
plain_tree (at.Boolean b) = scalar (boolean b)
plain_tree (at.ShortShortInt z) = scalar (number amqp.ShortShortInt (cast_unsigned w8 z))
plain_tree (at.ShortShortUInt n) = scalar (number amqp.ShortShortUInt n)
plain_tree (at.ShortInt z) = scalar (number amqp.ShortInt (cast_unsigned w16 z))
plain_tree (at.ShortUInt n) = scalar (number amqp.ShortUInt n)
plain_tree (at.LongInt z) = scalar (number amqp.LongInt (cast_unsigned w32 z))
plain_tree (at.LongUInt n) = scalar (number amqp.LongUInt n)
plain_tree (at.LongLongInt z) = scalar (number amqp.LongLongInt (cast_unsigned w64 z))
plain_tree (at.Float f) = scalar (number amqp.Float (float_bits f))
plain_tree (at.Double f) = scalar (number amqp.Double (double_bits f))
plain_tree (at.DecimalValue d) = scalar (decimal d.scale d.value)
plain_tree (at.LongString s) = long s.now
plain_tree (at.Timestamp n) = scalar (number amqp.Timestamp n)
plain_tree (at.ByteArray s) = octets s.now
plain_tree _ = scalar void

-- v is the value that is referred to: of a container what the grammar defines of its body
abbrev pub Denotes : ValueRef → Tree → Type 0
Denotes (at.FieldArray a) v = (vs : Trees) × ArrayBody (array_body a) vs × (v ≡ array vs)
Denotes (at.FieldTable t) v = (es : Entries) × HasEntries (table_body t) es × (v ≡ table es)
Denotes r v = v ≡ plain_tree r

-- it is one value
abbrev pub IsOneValue : ValueRef → Type 0
IsOneValue r = (u v : Tree) → Denotes r u → Denotes r v → u ≡ v

-- it is one table
abbrev pub IsOneTable : TableRef → Type 0
IsOneTable t = (es fs : Entries) → HasEntries (table_body t) es → HasEntries (table_body t) fs → es ≡ fs

-- the bytes of the body of an array, and of a table; none of any other value
abbrev pub array_bytes : ValueRef → Option (List ℕ)
array_bytes (at.FieldArray a) = Some (array_body a)
array_bytes _ = None

abbrev pub table_bytes : ValueRef → Option (List ℕ)
table_bytes (at.FieldTable t) = Some (table_body t)
table_bytes _ = None

-- an array of these values, or a table of these entries, is referred to, if there is one
abbrev pub ArrayIs : Option Trees → Option ArrayRef → Type 0
ArrayIs None None = Unit {0}
ArrayIs (Some vs) (Some a) = ArrayBody (array_body a) vs
ArrayIs _ _ = ⊥

abbrev pub TableIs : Option Entries → Option TableRef → Type 0
TableIs None None = Unit {0}
TableIs (Some es) (Some t) = HasEntries (table_body t) es
TableIs _ _ = ⊥

-- a string, a byte array or the body of a container has at least one byte
abbrev pub HasBytes : ValueRef → Type 0
HasBytes (at.LongString s) = 0 < length s.now
HasBytes (at.ByteArray s) = 0 < length s.now
HasBytes (at.FieldArray a) = 0 < length (array_body a)
HasBytes (at.FieldTable t) = 0 < length (table_body t)
HasBytes _ = ⊥
