-- `Canon`: which bytes are a canonical encoding of a value, by rules for the bytes alone (*Texts*
-- has what is written). The rules are those of *Grammar* without the alternate tags `U` (85) and
-- `L` (76) and without short strings. A boolean's byte is 0 or 1. Each key of a table is above the
-- one before it, so the pairs are the table's entries.
use Rattle.std.specs.Prelude.{ℕ, ◌^◌, ◌<◌, ◌≡◌, ◌≢◌, Some, List, [], ◌∷◌, ◌++◌, length}
use Rattle.amqp_value_core.specs.declared.types.amqp_type.AMQPType.{AMQPType}
use Rattle.amqp_value_core.specs.declared.types.amqp_type.AMQPType.TheVariants as amqp
use Rattle.amqp_value_core.specs.Values.{Tree, scalar, long, octets, array, table, Trees, no_trees, tree, Entries, no_entries, entry, ComesBefore}
use Rattle.amqp_value_core.specs.Ids.{kind}
use Rattle.amqp_value_core.specs.Layouts.{Layout, fixed}
use Rattle.amqp_value_core.specs.Bytes.{IsShort}
use Rattle.amqp_value_core.specs.Grammar.{short_field, long_field}

-- the byte of a boolean is 0 or 1
abbrev pub IsStrict : AMQPType → List ℕ → Type 0
IsStrict amqp.Boolean (c ∷ b) = c < 2
IsStrict _ b = Unit {0}

mutual
  -- w is the canonical encoding of v
  pub data Canon : List ℕ → Tree → Type 0 where
    canon : (c : ℕ) → (type : AMQPType) → (b : List ℕ) → (v : Tree) → kind c ≡ Some type → c ≢ 85 → c ≢ 76 → CanonRaw type b v → Canon (c ∷ b) v

  -- b is the payload of v in such an encoding
  pub data CanonRaw : AMQPType → List ℕ → Tree → Type 0 where
    canon_fixed : (type : AMQPType) → (f : Layout) → (b : List ℕ) → fixed type ≡ Some f → length b ≡ f.width → IsStrict type b → CanonRaw type b (scalar (f.denotes b))
    canon_long : (s : List ℕ) → length s < 2 ^ 32 → CanonRaw amqp.LongString (long_field s) (long s)
    canon_octets : (s : List ℕ) → length s < 2 ^ 32 → CanonRaw amqp.ByteArray (long_field s) (octets s)
    canon_array : (body : List ℕ) → (vs : Trees) → length body < 2 ^ 32 → CanonBody body vs → CanonRaw amqp.FieldArray (long_field body) (array vs)
    canon_table : (body : List ℕ) → (es : Entries) → length body < 2 ^ 32 → CanonPairs body es → CanonRaw amqp.FieldTable (long_field body) (table es)

  -- the bytes are canonical encodings of these values, one after another
  pub data CanonBody : List ℕ → Trees → Type 0 where
    canon_no_values : CanonBody [] no_trees
    canon_value : (w : List ℕ) → (rest : List ℕ) → (v : Tree) → (vs : Trees) → Canon w v → CanonBody rest vs → CanonBody (w ++ rest) (tree v vs)

  -- the bytes are these pairs one after another, each key above the one before it
  pub data CanonPairs : List ℕ → Entries → Type 0 where
    canon_no_pairs : CanonPairs [] no_entries
    canon_pair : (k : List ℕ) → (w : List ℕ) → (rest : List ℕ) → (v : Tree) → (es : Entries) → IsShort k → Canon w v → ComesBefore k es → CanonPairs rest es
        → CanonPairs (short_field k ++ (w ++ rest)) (entry k v es)
