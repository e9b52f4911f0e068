-- `IsWrittenAs`: the value that a `ValueRef` refers to as it is written, with every pair of a table
-- in its order, even if keys are equal; and how large that is (`HoldsValue`).
use Rattle.std.specs.Prelude.{ℕ, ◌≡◌, List, ◌++◌}
use Rattle.amqp_value_core.specs.declared.types.amqp_type.AMQPType.{AMQPType}
use Rattle.amqp_value_core.specs.Values.{Tree, scalar, short, long, octets, array, table, Trees, no_trees, tree, Entries, no_entries, entry, count, depth, count_all, greatest_depth, entries_count, entries_depth}
use Rattle.amqp_value_core.specs.Grammar.{Wire, Raw, ArrayBody, TableBody, wire, raw_fixed, raw_short, raw_long, raw_octets, raw_array, raw_table, no_values, value, no_pairs, pair}
use Rattle.amqp_in_place.specs.declared.refs.ValueRef.{ValueRef}
use Rattle.amqp_in_place.specs.declared.refs.ValueRef.TheVariants as at
use Rattle.amqp_in_place.specs.Refs.{array_body, table_body, plain_tree}

-- the value of an encoding as it is written
abbrev mutual
  pub written : (w : List ℕ) (v : Tree) → Wire w v → Tree
  written _ _ (wire c type b v is raw) = raw_written type b v raw

  pub raw_written : (type : AMQPType) (b : List ℕ) (v : Tree) → Raw type b v → Tree
  raw_written _ _ _ (raw_fixed type f b is wide) = scalar (f.denotes b)
  raw_written _ _ _ (raw_short s is) = short s
  raw_written _ _ _ (raw_long s fits) = long s
  raw_written _ _ _ (raw_octets s fits) = octets s
  raw_written _ _ _ (raw_array body vs fits all) = array (values_written body vs all)
  raw_written _ _ _ (raw_table body ps es fits all mean) = table (pairs_written body ps all)

  pub values_written : (body : List ℕ) (vs : Trees) → ArrayBody body vs → Trees
  values_written _ _ no_values = no_trees
  values_written _ _ (value w rest v vs first others) = tree (written w v first) (values_written rest vs others)

  pub pairs_written : (body : List ℕ) (ps : Entries) → TableBody body ps → Entries
  pairs_written _ _ no_pairs = no_entries
  pairs_written _ _ (pair k w rest v ps key first others) = entry k (written w v first) (pairs_written rest ps others)

-- the bytes are encodings of these values one after another, each as it is written
abbrev pub WrittenValues : List ℕ → Trees → Type 0
WrittenValues s ts = (vs : Trees) × (p : ArrayBody s vs) × (ts ≡ values_written s vs p)

-- the bytes are these pairs one after another, each value as it is written
abbrev pub WrittenPairs : List ℕ → Entries → Type 0
WrittenPairs s ps = (es : Entries) × (p : TableBody s es) × (ps ≡ pairs_written s es p)

-- t is the value that is referred to, as it is written
abbrev pub IsWrittenAs : ValueRef → Tree → Type 0
IsWrittenAs (at.FieldArray a) t = (ts : Trees) × WrittenValues (array_body a) ts × (t ≡ array ts)
IsWrittenAs (at.FieldTable b) t = (ps : Entries) × WrittenPairs (table_body b) ps × (t ≡ table ps)
IsWrittenAs r t = t ≡ plain_tree r

-- ---- how large a value is, as it is written: of equal keys each pair's value counts

-- P holds of the encoding at the start of s, and of each derivation of it
abbrev pub OfEncoding : List ℕ → ((w : List ℕ) (v : Tree) → Wire w v → Type 0) → Type 0
OfEncoding s P = (w rest : List ℕ) (v : Tree) (p : Wire w v) → s ≡ w ++ rest → P w v p

-- n values are in the value that is referred to, as it is written, and containers nest l levels deep
abbrev pub HoldsValue : ValueRef → ℕ → ℕ → Type 0
HoldsValue r n l = (t : Tree) → IsWrittenAs r t → (count t ≡ n) × (depth t ≡ l)

-- and so in values, and in pairs, one after another
abbrev pub HoldsValues : List ℕ → ℕ → ℕ → Type 0
HoldsValues s n l = (ts : Trees) → WrittenValues s ts → (count_all ts ≡ n) × (greatest_depth ts ≡ l)

abbrev pub HoldsPairs : List ℕ → ℕ → ℕ → Type 0
HoldsPairs s n l = (ps : Entries) → WrittenPairs s ps → (entries_count ps ≡ n) × (entries_depth ps ≡ l)
