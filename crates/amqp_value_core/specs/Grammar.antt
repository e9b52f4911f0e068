-- The grammar: which bytes are a value's encoding. It defines what the bytes are, not how they are
-- read. AMQP 0-9-1, section 4.2.5.5; the length of a container is that of its body in bytes.
use Rattle.std.specs.Prelude.{ℕ, ◌^◌, ◌<◌, ◌≡◌, Some, List, [], ◌∷◌, ◌++◌, length}
use Rattle.std.specs.Int.{w32, to_be_bytes}
use Rattle.amqp_value_core.specs.declared.types.amqp_type.AMQPType.{AMQPType}
use Rattle.amqp_value_core.specs.declared.types.amqp_type.AMQPType.TheVariants as amqp
use Rattle.amqp_value_core.specs.Values.{Tree, scalar, short, long, octets, array, table, Trees, no_trees, tree, Entries, no_entries, entry}
use Rattle.amqp_value_core.specs.Ids.{kind}
use Rattle.amqp_value_core.specs.Layouts.{Layout, fixed}
use Rattle.amqp_value_core.specs.Bytes.{IsShort}
use Rattle.amqp_value_core.specs.Maps.{Mean}

-- bytes after their length in one byte
abbrev pub short_field : List ℕ → List ℕ
short_field s = length s ∷ s

-- bytes after their length in four bytes
abbrev pub long_field : List ℕ → List ℕ
long_field s = to_be_bytes w32 (length s) ++ s

mutual
  -- w is an encoding of v: a type tag, and a payload of its type
  pub data Wire : List ℕ → Tree → Type 0 where
    wire : (c : ℕ) → (type : AMQPType) → (b : List ℕ) → (v : Tree) → kind c ≡ Some type → Raw type b v → Wire (c ∷ b) v

  -- b is a payload of the type, and means v
  pub data Raw : AMQPType → List ℕ → Tree → Type 0 where
    -- of a type of fixed width: that many bytes, with the meaning of the type
    raw_fixed : (type : AMQPType) → (f : Layout) → (b : List ℕ) → fixed type ≡ Some f → length b ≡ f.width → Raw type b (scalar (f.denotes b))
    -- of a string or byte array: its bytes after their length
    raw_short : (s : List ℕ) → IsShort s → Raw amqp.ShortString (short_field s) (short s)
    raw_long : (s : List ℕ) → length s < 2 ^ 32 → Raw amqp.LongString (long_field s) (long s)
    raw_octets : (s : List ℕ) → length s < 2 ^ 32 → Raw amqp.ByteArray (long_field s) (octets s)
    -- of an array: its body after the body's length
    raw_array : (body : List ℕ) → (vs : Trees) → length body < 2 ^ 32 → ArrayBody body vs → Raw amqp.FieldArray (long_field body) (array vs)
    -- of a table: its body after the body's length; at each key the value of the last pair with it
    raw_table : (body : List ℕ) → (ps : Entries) → (es : Entries) → length body < 2 ^ 32 → TableBody body ps → Mean ps es → Raw amqp.FieldTable (long_field body) (table es)

  -- the bytes are encodings of these values, one after another, and nothing else
  pub data ArrayBody : List ℕ → Trees → Type 0 where
    no_values : ArrayBody [] no_trees
    value : (w : List ℕ) → (rest : List ℕ) → (v : Tree) → (vs : Trees) → Wire w v → ArrayBody rest vs → ArrayBody (w ++ rest) (tree v vs)

  -- the bytes are these pairs, one after another, and nothing else: each a key after its length,
  -- and an encoding of a value
  pub data TableBody : List ℕ → Entries → Type 0 where
    no_pairs : TableBody [] no_entries
    pair : (k : List ℕ) → (w : List ℕ) → (rest : List ℕ) → (v : Tree) → (ps : Entries) → IsShort k → Wire w v → TableBody rest ps → TableBody (short_field k ++ (w ++ rest)) (entry k v ps)
