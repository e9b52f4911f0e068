-- `same_tree`: equality of values as a boolean, which `==` returns. It is true exactly of equal
-- trees (clause `trees` of `==`).
use Rattle.std.specs.Prelude.{ℕ, Bool, true, false, ◌&&◌, ◌==◌}
use Rattle.amqp_value_core.specs.declared.types.amqp_type.AMQPType.{AMQPType}
use Rattle.amqp_value_core.specs.declared.types.amqp_type.AMQPType.TheVariants as amqp
use Rattle.amqp_value_core.specs.Values.{Scalar, boolean, number, decimal, void, Tree, scalar, short, long, octets, array, table, Trees, no_trees, tree, Entries, no_entries, entry}
use Rattle.amqp_value_core.specs.Maps.{same_bytes}

-- the place of a type in the list of types
abbrev pub place_of : AMQPType → ℕ
place_of amqp.Boolean = 0
place_of amqp.ShortShortInt = 1
place_of amqp.ShortShortUInt = 2
place_of amqp.ShortInt = 3
place_of amqp.ShortUInt = 4
place_of amqp.LongInt = 5
place_of amqp.LongUInt = 6
place_of amqp.LongLongInt = 7
place_of amqp.LongLongUInt = 8
place_of amqp.Float = 9
place_of amqp.Double = 10
place_of amqp.DecimalValue = 11
place_of amqp.ShortString = 12
place_of amqp.LongString = 13
place_of amqp.FieldArray = 14
place_of amqp.Timestamp = 15
place_of amqp.FieldTable = 16
place_of amqp.ByteArray = 17
place_of amqp.Void = 18

abbrev pub same_truth : Bool → Bool → Bool
same_truth true true = true
same_truth false false = true
same_truth _ _ = false

abbrev pub same_scalar : Scalar → Scalar → Bool
same_scalar (boolean a) (boolean b) = same_truth a b
same_scalar (number t m) (number u n) = (place_of t == place_of u) && (m == n)
same_scalar (decimal a m) (decimal b n) = (a == b) && (m == n)
same_scalar void void = true
same_scalar _ _ = false

abbrev mutual
  pub same_tree : Tree → Tree → Bool
  same_tree (scalar x) (scalar y) = same_scalar x y
  same_tree (short s) (short t) = same_bytes s t
  same_tree (long s) (long t) = same_bytes s t
  same_tree (octets s) (octets t) = same_bytes s t
  same_tree (array vs) (array us) = same_trees vs us
  same_tree (table es) (table fs) = same_entries es fs
  same_tree _ _ = false

  pub same_trees : Trees → Trees → Bool
  same_trees no_trees no_trees = true
  same_trees (tree v vs) (tree u us) = same_tree v u && same_trees vs us
  same_trees _ _ = false

  pub same_entries : Entries → Entries → Bool
  same_entries no_entries no_entries = true
  same_entries (entry k v es) (entry j u fs) = same_bytes k j && (same_tree v u && same_entries es fs)
  same_entries _ _ = false
