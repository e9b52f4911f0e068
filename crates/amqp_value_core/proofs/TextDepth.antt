-- How deep `text` nests: as deep as its value, which is no deeper than any encoding of it.
use Rattle.std.proofs.Common.{◌≡◌, ◌≢◌, ◌≤◌, ℕ, zero, suc, List, refl, arith, IsTrue}
use Rattle.std.proofs.lemmas.Bool.{and_parts}
use Rattle.amqp_value_core.specs.declared.types.amqp_type.AMQPType.{AMQPType}
use Rattle.amqp_value_core.specs.declared.types.amqp_type.AMQPType.TheVariants as amqp
use Rattle.amqp_value_core.specs.Values.{Scalar, Tree, scalar, short, long, octets, array, table, Trees, no_trees, tree, Entries, no_entries, entry, scalar_type, depth, readable, greatest_depth, entries_depth, all_readable, entries_readable}
use Rattle.amqp_value_core.specs.Ids.{id_of}
use Rattle.amqp_value_core.specs.Layouts.{spelled}
use Rattle.amqp_value_core.specs.Grammar.{long_field, Raw, raw_fixed, raw_short, raw_long, raw_octets, raw_array, raw_table}
use Rattle.amqp_value_core.specs.Nesting.{WireWithin, within_wire, RawWithin, within_plain, within_array, within_table, BodyWithin, within_no_values, within_value, PairsWithin, within_no_pairs, within_pair}
use Rattle.amqp_value_core.proofs.Nests.{wire_of, fixed_within}
use Rattle.amqp_value_core.proofs.Tables.{rising_mean, entries_rise}
use Rattle.amqp_value_core.specs.Bytes.{IsBytes}
use Rattle.amqp_value_core.proofs.Shortest.{what_is_read, read_is_value}
use Rattle.amqp_value_core.specs.Texts.{text, body, pairs, Fits, AllFit, EntriesFit}
use Rattle.amqp_value_core.specs.InMemory.{IsValue, AreValues, AreEntries}
use Rattle.amqp_value_core.proofs.Bounds.{mean_within}
use Rattle.amqp_value_core.proofs.Spelling.{scalar_spelled, scalar_raw}

-- what isn't a container has no depth
plain_depth : (type : AMQPType) (b : List ℕ) (v : Tree) → type ≢ amqp.FieldArray → type ≢ amqp.FieldTable → Raw type b v → depth v ≡ 0
plain_depth _ _ _ no_array no_table (raw_fixed type f b is wide) = refl
plain_depth _ _ _ no_array no_table (raw_short s is) = refl
plain_depth _ _ _ no_array no_table (raw_long s fits) = refl
plain_depth _ _ _ no_array no_table (raw_octets s fits) = refl
plain_depth _ _ _ no_array no_table (raw_array body vs fits all) = absurd (no_array refl)
plain_depth _ _ _ no_array no_table (raw_table body ps es fits all mean) = absurd (no_table refl)

mutual
  -- a value is no deeper than an encoding of it
  pub depth_within : (d : ℕ) (w : List ℕ) (v : Tree) → WireWithin d w v → depth v ≤ d
  depth_within _ _ _ (within_wire d c type b v is raw) = raw_depth d type b v raw

  raw_depth : (d : ℕ) (type : AMQPType) (b : List ℕ) (v : Tree) → RawWithin d type b v → depth v ≤ d
  raw_depth _ _ _ _ (within_plain d type b v no_array no_table p) = omega (arith, plain_depth type b v no_array no_table p)
  raw_depth _ _ _ _ (within_array d body vs fits all) = omega (arith, body_depth d body vs all)
  raw_depth _ _ _ _ (within_table d body ps es fits all mean) = omega (arith, pairs_depth d body ps all, (mean_within ps es mean).depth)

  body_depth : (d : ℕ) (body : List ℕ) (vs : Trees) → BodyWithin d body vs → greatest_depth vs ≤ d
  body_depth _ _ _ (within_no_values d) = omega arith
  body_depth _ _ _ (within_value d w rest v vs first others) = omega (arith, depth_within d w v first, body_depth d rest vs others)

  pairs_depth : (d : ℕ) (body : List ℕ) (ps : Entries) → PairsWithin d body ps → entries_depth ps ≤ d
  pairs_depth _ _ _ (within_no_pairs d) = omega arith
  pairs_depth _ _ _ (within_pair d k w rest v ps key first others) = omega (arith, depth_within d w v first, pairs_depth d rest ps others)

-- what encodes a scalar nests nothing
scalar_flat : (d : ℕ) (type : AMQPType) (b : List ℕ) (v : Tree) (x : Scalar) → v ≡ scalar x → Raw type b v → RawWithin d type b v
scalar_flat d _ _ _ x e (raw_fixed type f b is wide) = fixed_within d type f b is wide
scalar_flat d _ _ _ x e (raw_short s is) = absurd cc
scalar_flat d _ _ _ x e (raw_long s fits) = absurd cc
scalar_flat d _ _ _ x e (raw_octets s fits) = absurd cc
scalar_flat d _ _ _ x e (raw_array body vs fits all) = absurd cc
scalar_flat d _ _ _ x e (raw_table body ps es fits all mean) = absurd cc

mutual
  -- `text` of a value is an encoding of it within each depth that the value doesn't pass
  pub text_within : (d : ℕ) (v : Tree) → depth v ≤ d → IsValue v → Fits v → IsTrue (readable v) → WireWithin d (text v) v
  text_within d (scalar x) le is fits r =
      within_wire d (id_of (scalar_type x)) (scalar_type x) (spelled x) (scalar x) (scalar_spelled x is).id (scalar_flat d (scalar_type x) (spelled x) (scalar x) x refl (scalar_raw x is))
  text_within d (short s) le is fits r = absurd cc
  text_within d (long s) le is fits r =
      within_wire d (id_of amqp.LongString) amqp.LongString (long_field s) (long s) refl (within_plain d amqp.LongString (long_field s) (long s) (λ e. cc) (λ e. cc) (raw_long s fits))
  text_within d (octets s) le is fits r =
      within_wire d (id_of amqp.ByteArray) amqp.ByteArray (long_field s) (octets s) refl (within_plain d amqp.ByteArray (long_field s) (octets s) (λ e. cc) (λ e. cc) (raw_octets s fits))
  text_within zero (array vs) le is fits r = absurd (omega arith)
  text_within zero (table es) le is fits r = absurd (omega arith)
  text_within (suc d) (array vs) le is fits r =
      within_wire (suc d) (id_of amqp.FieldArray) amqp.FieldArray (long_field (body vs)) (array vs) refl (within_array d (body vs) vs fits.0 (texts_within d vs (omega arith) is fits.1 r))
  text_within (suc d) (table es) le is fits r =
      within_wire (suc d) (id_of amqp.FieldTable) amqp.FieldTable (long_field (pairs es)) (table es) refl
      (within_table d (pairs es) es es fits.0 (texts_pair d es (omega arith) is fits.1 r) (rising_mean es (entries_rise es is)))

  texts_within : (d : ℕ) (vs : Trees) → greatest_depth vs ≤ d → AreValues vs → AllFit vs → IsTrue (all_readable vs) → BodyWithin d (body vs) vs
  texts_within d no_trees le is fits r = within_no_values d
  texts_within d (tree v vs) le is fits r =
      let both = and_parts (readable v) (all_readable vs) r in
      within_value d (text v) (body vs) v vs (text_within d v (omega arith) is.0 fits.0 both.0) (texts_within d vs (omega arith) is.1 fits.1 both.1)

  texts_pair : (d : ℕ) (es : Entries) → entries_depth es ≤ d → AreEntries es → EntriesFit es → IsTrue (entries_readable es) → PairsWithin d (pairs es) es
  texts_pair d no_entries le are fits r = within_no_pairs d
  texts_pair d (entry k v es) le are fits r =
      let both = and_parts (readable v) (entries_readable es) r in
      within_pair d k (text v) (pairs es) v es are.0 (text_within d v (omega arith) are.1 fits.0 both.0) (texts_pair d es (omega arith) are.3 fits.1 both.1)

-- so `text` of what was read within a depth is read within it
pub text_again : (d : ℕ) (w : List ℕ) (v : Tree) → IsBytes w → WireWithin d w v → WireWithin d (text v) v
text_again d w v bytes p =
    let q = wire_of d w v p in
    let read = what_is_read w v q in
    text_within d v (depth_within d w v p) (read_is_value w v bytes q) read.0 read.1
