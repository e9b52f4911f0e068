-- `WireWithin`: encodings with a limit on how deep containers nest, the rules of *Grammar* with a
-- depth.
use Rattle.std.specs.Prelude.{ℕ, suc, max, ◌^◌, ◌<◌, ◌≡◌, ◌≢◌, Some, List, [], ◌∷◌, ◌++◌, length}
use Rattle.amqp_value_core.specs.declared.types.amqp_type.AMQPType.{AMQPType}
use Rattle.amqp_value_core.specs.declared.types.amqp_type.AMQPType.TheVariants as amqp
use Rattle.amqp_value_core.specs.Values.{Tree, array, table, Trees, no_trees, tree, Entries, no_entries, entry}
use Rattle.amqp_value_core.specs.Ids.{kind}
use Rattle.amqp_value_core.specs.Bytes.{IsShort}
use Rattle.amqp_value_core.specs.Maps.{Mean}
use Rattle.amqp_value_core.specs.Outcomes.{Reading, RawOutcomeBy, OutcomeBy}
use Rattle.amqp_value_core.specs.Grammar.{short_field, long_field, Wire, Raw, ArrayBody, TableBody, wire, raw_fixed, raw_short, raw_long, raw_octets, raw_array, raw_table, no_values, value, no_pairs, pair}

mutual
  -- w is an encoding of v in which containers nest at most `depth` deep, also in pairs of a table whose
  -- key comes again
  pub data WireWithin : ℕ → List ℕ → Tree → Type 0 where
    within_wire : (depth : ℕ) → (c : ℕ) → (type : AMQPType) → (b : List ℕ) → (v : Tree) → kind c ≡ Some type → RawWithin depth type b v → WireWithin depth (c ∷ b) v

  -- b is a payload of the type, and means v, and containers nest at most `depth` deep in it
  pub data RawWithin : ℕ → AMQPType → List ℕ → Tree → Type 0 where
    -- of what isn't a container: any
    within_plain : (depth : ℕ) → (type : AMQPType) → (b : List ℕ) → (v : Tree) → type ≢ amqp.FieldArray → type ≢ amqp.FieldTable → Raw type b v → RawWithin depth type b v
    -- of a container: if each of its values nests at most 1 less deep, so none within 0
    within_array : (depth : ℕ) → (body : List ℕ) → (vs : Trees) → length body < 2 ^ 32 → BodyWithin depth body vs → RawWithin (suc depth) amqp.FieldArray (long_field body) (array vs)
    within_table : (depth : ℕ) → (body : List ℕ) → (ps : Entries) → (es : Entries) → length body < 2 ^ 32 → PairsWithin depth body ps → Mean ps es
        → RawWithin (suc depth) amqp.FieldTable (long_field body) (table es)

  -- the bytes are encodings of these values, and containers nest at most `depth` deep in each
  pub data BodyWithin : ℕ → List ℕ → Trees → Type 0 where
    within_no_values : (depth : ℕ) → BodyWithin depth [] no_trees
    within_value : (depth : ℕ) → (w : List ℕ) → (rest : List ℕ) → (v : Tree) → (vs : Trees) → WireWithin depth w v → BodyWithin depth rest vs → BodyWithin depth (w ++ rest) (tree v vs)

  -- the bytes are these pairs, and containers nest at most `depth` deep in each
  pub data PairsWithin : ℕ → List ℕ → Entries → Type 0 where
    within_no_pairs : (depth : ℕ) → PairsWithin depth [] no_entries
    within_pair : (depth : ℕ) → (k : List ℕ) → (w : List ℕ) → (rest : List ℕ) → (v : Tree) → (ps : Entries) → IsShort k → WireWithin depth w v → PairsWithin depth rest ps
        → PairsWithin depth (short_field k ++ (w ++ rest)) (entry k v ps)

-- Reading a payload of the type, or a value, results in o, where only encodings count in which
-- containers nest at most `depth` deep. A complete one that nests deeper is malformed.
abbrev pub RawOutcomeWithin : ℕ → AMQPType → List ℕ → Reading → Type 0
RawOutcomeWithin depth type s o = RawOutcomeBy (RawWithin depth type) type s o

abbrev pub OutcomeWithin : ℕ → List ℕ → Reading → Type 0
OutcomeWithin depth s o = OutcomeBy (WireWithin depth) s o

-- how deep containers nest in an encoding, with every entry that is written, as a number: a container
-- counts 1 more than what nests deepest in its body, all that isn't a container 0
abbrev mutual
  pub nesting : (w : List ℕ) (v : Tree) → Wire w v → ℕ
  nesting _ _ (wire c type b v is raw) = raw_nesting type b v raw

  pub raw_nesting : (type : AMQPType) (b : List ℕ) (v : Tree) → Raw type b v → ℕ
  raw_nesting _ _ _ (raw_fixed type f b is wide) = 0
  raw_nesting _ _ _ (raw_short s is) = 0
  raw_nesting _ _ _ (raw_long s fits) = 0
  raw_nesting _ _ _ (raw_octets s fits) = 0
  raw_nesting _ _ _ (raw_array body vs fits entries) = suc (body_nesting body vs entries)
  raw_nesting _ _ _ (raw_table body ps es fits entries mean) = suc (pairs_nesting body ps entries)

  pub body_nesting : (body : List ℕ) (vs : Trees) → ArrayBody body vs → ℕ
  body_nesting _ _ no_values = 0
  body_nesting _ _ (value w rest v vs first others) = max (nesting w v first) (body_nesting rest vs others)

  pub pairs_nesting : (body : List ℕ) (ps : Entries) → TableBody body ps → ℕ
  pairs_nesting _ _ no_pairs = 0
  pairs_nesting _ _ (pair k w rest v ps key first others) = max (nesting w v first) (pairs_nesting rest ps others)
