-- `text` of a readable value is a canonical encoding (`Canon`), and the only one that is bytes.
use Rattle.std.proofs.Common.{◌≢◌, ℕ, true, false, List, IsTrue, refl, sym, subst, arith}
use Rattle.std.specs.Int.{bytes_high_first}
use Rattle.std.proofs.lemmas.Bool.{and_parts}
use Rattle.amqp_value_core.specs.declared.types.amqp_type.AMQPType.{AMQPType}
use Rattle.amqp_value_core.specs.declared.types.amqp_type.AMQPType.TheVariants as amqp
use Rattle.amqp_value_core.specs.Values.{Scalar, boolean, number, decimal, void, Tree, scalar, short, long, octets, array, table, Trees, no_trees, tree, Entries, no_entries, entry, scalar_type, type_of, readable, all_readable, entries_readable}
use Rattle.amqp_value_core.specs.Ids.{id_of}
use Rattle.amqp_value_core.specs.Layouts.{width_of, spelled}
use Rattle.amqp_value_core.specs.Grammar.{long_field}
use Rattle.amqp_value_core.specs.Texts.{payload, text, body, pairs, Fits, AllFit, EntriesFit}
use Rattle.amqp_value_core.specs.InMemory.{IsNumber, IsScalar, IsValue, AreValues, AreEntries}
use Rattle.amqp_value_core.specs.Canonical.{IsStrict, Canon, canon, CanonRaw, canon_fixed, canon_long, canon_octets, canon_array, canon_table, CanonBody, canon_no_values, canon_value, CanonPairs, canon_no_pairs, canon_pair}
use Rattle.amqp_value_core.specs.Headline.{IsCanonical}
use Rattle.amqp_value_core.proofs.Spelling.{scalar_spelled}
use Rattle.amqp_value_core.proofs.Canons.{canon_is_text, canon_fits}

-- no type tag that is written is an alternate tag
not_U : (type : AMQPType) → id_of type ≢ 85
not_U amqp.Void = λ e. absurd (omega (arith, e))
not_U _ = λ e. absurd (omega (arith, e))

not_L : (type : AMQPType) → id_of type ≢ 76
not_L amqp.Void = λ e. absurd (omega (arith, e))
not_L _ = λ e. absurd (omega (arith, e))

-- a number's bytes are no boolean's
number_strict : (type : AMQPType) (n : ℕ) → IsNumber type n → IsStrict type (bytes_high_first (width_of type) n)
number_strict amqp.Boolean n none = absurd none
number_strict _ n is = tt

-- a boolean is encoded as 0 or 1
spelled_strict : (x : Scalar) → IsScalar x → IsStrict (scalar_type x) (spelled x)
spelled_strict (boolean true) is = omega arith
spelled_strict (boolean false) is = omega arith
spelled_strict (number type n) is = number_strict type n is
spelled_strict (decimal scale n) is = tt
spelled_strict void is = tt

-- what encodes a scalar is the canonical payload of it
spelled_canon : (x : Scalar) → IsScalar x → CanonRaw (scalar_type x) (spelled x) (scalar x)
spelled_canon x is =
    let s = scalar_spelled x is in
    subst (λ (y : Scalar). CanonRaw (scalar_type x) (spelled x) (scalar y)) s.means
    (canon_fixed (scalar_type x) s.layout (spelled x) s.row s.width (spelled_strict x is))

mutual
  -- `text` of a value is a canonical encoding of it
  pub text_is_canon : (v : Tree) → IsValue v → Fits v → IsTrue (readable v) → Canon (text v) v
  text_is_canon (scalar x) is fits r =
      canon (id_of (scalar_type x)) (scalar_type x) (spelled x) (scalar x) (scalar_spelled x is).id (not_U (scalar_type x)) (not_L (scalar_type x)) (spelled_canon x is)
  text_is_canon (short s) is fits r = absurd cc
  text_is_canon (long s) is fits r =
      canon (id_of amqp.LongString) amqp.LongString (long_field s) (long s) refl (not_U amqp.LongString) (not_L amqp.LongString) (canon_long s fits)
  text_is_canon (octets s) is fits r =
      canon (id_of amqp.ByteArray) amqp.ByteArray (long_field s) (octets s) refl (not_U amqp.ByteArray) (not_L amqp.ByteArray) (canon_octets s fits)
  text_is_canon (array vs) is fits r =
      canon (id_of amqp.FieldArray) amqp.FieldArray (long_field (body vs)) (array vs) refl (not_U amqp.FieldArray) (not_L amqp.FieldArray)
      (canon_array (body vs) vs fits.0 (texts_are_canon vs is fits.1 r))
  text_is_canon (table es) is fits r =
      canon (id_of amqp.FieldTable) amqp.FieldTable (long_field (pairs es)) (table es) refl (not_U amqp.FieldTable) (not_L amqp.FieldTable)
      (canon_table (pairs es) es fits.0 (keyed_are_canon es is fits.1 r))

  -- `text` of values, joined, is canonical encodings one after another
  texts_are_canon : (vs : Trees) → AreValues vs → AllFit vs → IsTrue (all_readable vs) → CanonBody (body vs) vs
  texts_are_canon no_trees is fits r = canon_no_values
  texts_are_canon (tree v vs) is fits r =
      let both = and_parts (readable v) (all_readable vs) r in
      canon_value (text v) (body vs) v vs (text_is_canon v is.0 fits.0 both.0) (texts_are_canon vs is.1 fits.1 both.1)

  -- with keys before them they are canonical pairs
  keyed_are_canon : (es : Entries) → AreEntries es → EntriesFit es → IsTrue (entries_readable es) → CanonPairs (pairs es) es
  keyed_are_canon no_entries are fits r = canon_no_pairs
  keyed_are_canon (entry k v es) are fits r =
      let both = and_parts (readable v) (entries_readable es) r in
      canon_pair k (text v) (pairs es) v es are.0 (text_is_canon v are.1 fits.0 both.0) are.2 (keyed_are_canon es are.3 fits.1 both.1)

-- and so is its payload
pub payload_is_canon : (v : Tree) → IsValue v → Fits v → IsTrue (readable v) → CanonRaw (type_of v) (payload v) v
payload_is_canon (scalar x) is fits r = spelled_canon x is
payload_is_canon (short s) is fits r = absurd cc
payload_is_canon (long s) is fits r = canon_long s fits
payload_is_canon (octets s) is fits r = canon_octets s fits
payload_is_canon (array vs) is fits r = canon_array (body vs) vs fits.0 (texts_are_canon vs is fits.1 r)
payload_is_canon (table es) is fits r = canon_table (pairs es) es fits.0 (keyed_are_canon es is fits.1 r)

-- a list is a canonical encoding of a value exactly when it is `text` of a readable one
pub is_canonical : (v : Tree) → IsValue v → Fits v → IsCanonical v
is_canonical v is fits w bytes = (
  λ p. ((canon_fits w v p).1, canon_is_text w v bytes p),
  λ h. subst (λ (x : List ℕ). Canon x v) (sym h.1) (text_is_canon v is fits h.0),
)
