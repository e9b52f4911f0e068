-- `IsValue`: what holds of the tree of every value in memory.
use Rattle.std.specs.Prelude.{ℕ, ◌^◌, ◌<◌}
use Rattle.amqp_value_core.specs.declared.types.amqp_type.AMQPType.{AMQPType}
use Rattle.amqp_value_core.specs.declared.types.amqp_type.AMQPType.TheVariants as amqp
use Rattle.amqp_value_core.specs.Values.{Scalar, number, decimal, Tree, scalar, short, array, table, Trees, no_trees, tree, Entries, no_entries, entry, ComesBefore}
use Rattle.amqp_value_core.specs.Bytes.{IsShort}

-- n can be the bits of a number of the type
-- No value in memory has the type LongLongUInt, which is read as a LongLongInt.
abbrev pub IsNumber : AMQPType → ℕ → Type 0
IsNumber amqp.ShortShortInt n = n < 2 ^ 8
IsNumber amqp.ShortShortUInt n = n < 2 ^ 8
IsNumber amqp.ShortInt n = n < 2 ^ 16
IsNumber amqp.ShortUInt n = n < 2 ^ 16
IsNumber amqp.LongInt n = n < 2 ^ 32
IsNumber amqp.LongUInt n = n < 2 ^ 32
IsNumber amqp.LongLongInt n = n < 2 ^ 64
IsNumber amqp.Float n = n < 2 ^ 32
IsNumber amqp.Double n = n < 2 ^ 64
IsNumber amqp.Timestamp n = n < 2 ^ 64
IsNumber _ n = ⊥

-- a number is one of its type
abbrev pub IsScalar : Scalar → Type 0
IsScalar (number type n) = IsNumber type n
IsScalar (decimal scale n) = (scale < 2 ^ 8) × (n < 2 ^ 32)
IsScalar _ = Unit {0}

-- what every value in memory is: each number is in its type's range, each short string and each key
-- is one, and a table's keys are in ascending order of their bytes
abbrev mutual
  pub IsValue : Tree → Type 0
  IsValue (scalar x) = IsScalar x
  IsValue (short s) = IsShort s
  IsValue (array vs) = AreValues vs
  IsValue (table es) = AreEntries es
  IsValue _ = Unit {0}

  pub AreValues : Trees → Type 0
  AreValues no_trees = Unit {0}
  AreValues (tree v vs) = IsValue v × AreValues vs

  pub AreEntries : Entries → Type 0
  AreEntries no_entries = Unit {0}
  AreEntries (entry k v es) = IsShort k × IsValue v × ComesBefore k es × AreEntries es
