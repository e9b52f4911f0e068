-- Where in some bytes the value is that a `ValueRef` refers to: at their start (`IsViewIn`), or
-- anywhere in them (`IsViewWithin`).
use Rattle.std.specs.Prelude.{ℕ, ◌^◌, ◌<◌, ◌≡◌, Some, List, ◌∷◌, ◌++◌, length}
use Rattle.amqp_value_core.specs.declared.types.amqp_type.AMQPType.{AMQPType}
use Rattle.amqp_value_core.specs.declared.types.amqp_type.AMQPType.TheVariants as amqp
use Rattle.amqp_value_core.specs.Ids.{kind}
use Rattle.amqp_value_core.specs.Grammar.{short_field, long_field, Wire}
use Rattle.amqp_in_place.specs.declared.refs.ValueRef.{ValueRef}
use Rattle.amqp_in_place.specs.declared.refs.ValueRef.TheVariants as at
use Rattle.amqp_in_place.specs.Refs.{array_body, table_body, plain_tree}

-- s is a type tag of the type, the length of `body` in four bytes, `body`, and `rest`
abbrev pub IsFramed : AMQPType → List ℕ → List ℕ → List ℕ → Type 0
IsFramed type s body rest = (c : ℕ) × (kind c ≡ Some type) × (length body < 2 ^ 32) × (s ≡ c ∷ (long_field body ++ rest))

-- the value is at the beginning of s, and `rest` is after it: a string, a byte array or the
-- body of a container after a type tag and its length, and any other value's encoding
abbrev pub IsViewIn : List ℕ → ValueRef → List ℕ → Type 0
IsViewIn s (at.LongString b) rest = IsFramed amqp.LongString s b.now rest
IsViewIn s (at.ByteArray b) rest = IsFramed amqp.ByteArray s b.now rest
IsViewIn s (at.FieldArray a) rest = IsFramed amqp.FieldArray s (array_body a) rest
IsViewIn s (at.FieldTable t) rest = IsFramed amqp.FieldTable s (table_body t) rest
IsViewIn s r rest = (w : List ℕ) × Wire w (plain_tree r) × (s ≡ w ++ rest)

-- and so somewhere in s
abbrev pub IsViewWithin : List ℕ → ValueRef → Type 0
IsViewWithin s r = (before after rest : List ℕ) × (s ≡ before ++ after) × IsViewIn after r rest

-- the key is at the beginning of s after its length in one byte, and the value is after it
abbrev pub IsPairViewIn : List ℕ → List ℕ → ValueRef → List ℕ → Type 0
IsPairViewIn s key r rest = (after : List ℕ) × (s ≡ short_field key ++ after) × IsViewIn after r rest
