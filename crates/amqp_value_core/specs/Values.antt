-- `Tree`: what an `AMQPValue` is, without its place in memory.
-- AMQP 0-9-1, section 4.2.5.5 (field tables), in the reading of RabbitMQ's errata, section 3.
use Rattle.std.specs.Prelude.{ℕ, ◌+◌, ◌≡◌, max, Bool, true, false, ◌&&◌, List, [], ◌∷◌}
use Rattle.std.specs.Ordering.{nat_cmp}
use Rattle.std.specs.Cmp.Lexicographic.{slice_cmp}
use Rattle.amqp_value_core.specs.declared.types.amqp_type.AMQPType.{AMQPType}
use Rattle.amqp_value_core.specs.declared.types.amqp_type.AMQPType.TheVariants as amqp
use Rattle.std.specs.declared.cmp.Ordering.TheVariants.{Less}

-- A signed number's bits are in two's complement, a Float's and a Double's as they are.
-- A value of fixed width: a boolean, a number (type and bits), a decimal (scale and number), or nothing.
pub data Scalar : Type 0 where
  boolean : Bool → Scalar
  number : AMQPType → ℕ → Scalar
  decimal : ℕ → ℕ → Scalar
  void : Scalar

-- A value is a tree, and equal values are equal trees. Not each tree is a value: `IsValue` in
-- *InMemory* says which are.
mutual
  pub data Tree : Type 0 where
    scalar : Scalar → Tree
    -- a short string, a long string and a byte array: their bytes
    short : List ℕ → Tree
    long : List ℕ → Tree
    octets : List ℕ → Tree
    array : Trees → Tree
    table : Entries → Tree

  -- the values of an array, in order
  pub data Trees : Type 0 where
    no_trees : Trees
    tree : Tree → Trees → Trees

  -- pairs of a key and a value: the entries of a table, in the order of their keys' bytes, or pairs as
  -- they are written, in any order
  pub data Entries : Type 0 where
    no_entries : Entries
    entry : List ℕ → Tree → Entries → Entries

-- the type of a value of fixed width
abbrev pub scalar_type : Scalar → AMQPType
scalar_type (boolean b) = amqp.Boolean
scalar_type (number type n) = type
scalar_type (decimal scale n) = amqp.DecimalValue
scalar_type void = amqp.Void

-- the type of a value
abbrev pub type_of : Tree → AMQPType
type_of (scalar x) = scalar_type x
type_of (short s) = amqp.ShortString
type_of (long s) = amqp.LongString
type_of (octets s) = amqp.ByteArray
type_of (array vs) = amqp.FieldArray
type_of (table es) = amqp.FieldTable

-- the values of a list, as the values of an array
abbrev pub trees_of : List Tree → Trees
trees_of [] = no_trees
trees_of (v ∷ vs) = tree v (trees_of vs)

-- the pairs of a list, as the entries of a table
abbrev pub entries_of : List (List ℕ × Tree) → Entries
entries_of [] = no_entries
entries_of (e ∷ es) = entry e.0 e.1 (entries_of es)

-- how deep containers nest: 1 more than what nests deepest in them, so 1 if empty; all that isn't a
-- container 0
abbrev mutual
  pub depth : Tree → ℕ
  depth (array vs) = 1 + greatest_depth vs
  depth (table es) = 1 + entries_depth es
  depth _ = 0

  pub greatest_depth : Trees → ℕ
  greatest_depth no_trees = 0
  greatest_depth (tree v vs) = max (depth v) (greatest_depth vs)

  pub entries_depth : Entries → ℕ
  entries_depth no_entries = 0
  entries_depth (entry k v es) = max (depth v) (entries_depth es)

-- how many values are in the tree, itself included; keys don't count
abbrev mutual
  pub count : Tree → ℕ
  count (array vs) = 1 + count_all vs
  count (table es) = 1 + entries_count es
  count _ = 1

  pub count_all : Trees → ℕ
  count_all no_trees = 0
  count_all (tree v vs) = count v + count_all vs

  pub entries_count : Entries → ℕ
  entries_count no_entries = 0
  entries_count (entry k v es) = count v + entries_count es

-- whether what is written for a value can be read: no value in it is a short string, whose type tag
-- isn't read; a key isn't a value
abbrev mutual
  pub readable : Tree → Bool
  readable (short s) = false
  readable (array vs) = all_readable vs
  readable (table es) = entries_readable es
  readable _ = true

  pub all_readable : Trees → Bool
  all_readable no_trees = true
  all_readable (tree v vs) = readable v && all_readable vs

  pub entries_readable : Entries → Bool
  entries_readable no_entries = true
  entries_readable (entry k v es) = readable v && entries_readable es

-- The key comes before the first key of the entries, and so before each if their keys ascend.
-- At the first byte that differs the key has the smaller one, or it is a proper prefix.
abbrev pub ComesBefore : List ℕ → Entries → Type 0
ComesBefore k no_entries = Unit {0}
ComesBefore k (entry j u es) = slice_cmp nat_cmp k j ≡ Less
