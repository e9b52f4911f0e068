-- `size` of an array or a table grows by what each value takes, and `text` of a readable value is
-- an encoding of it (`Wire`).
use Rattle.std.proofs.Common.{◌≡◌, ◌<◌, ◌+◌, ◌^◌, ℕ, zero, suc, List, ◌++◌, length, true, false, Some, refl, ap, ap₂, subst, arith, length-append, IsTrue}
use Rattle.std.specs.Int.{w8, from_be_bytes, bytes_high_first}
use Rattle.std.proofs.lemmas.Bool.{and_parts}
use Rattle.std.proofs.lemmas.Nat.{from_be_bytes-to_be_bytes_2, from_be_bytes-to_be_bytes_4, from_be_bytes-to_be_bytes_8}
use Rattle.amqp_value_core.specs.declared.types.amqp_type.AMQPType.{AMQPType}
use Rattle.amqp_value_core.specs.declared.types.amqp_type.AMQPType.TheVariants as amqp
use Rattle.amqp_value_core.specs.Values.{Scalar, boolean, number, decimal, void, Tree, scalar, short, long, octets, array, table, Trees, no_trees, tree, Entries, no_entries, entry, scalar_type, readable, type_of, all_readable, entries_readable}
use Rattle.amqp_value_core.specs.Texts.{payload, text, body, pairs, size, Fits, body_size, pairs_size, AllFit, EntriesFit}
use Rattle.amqp_value_core.specs.Ids.{kind, id_of}
use Rattle.amqp_value_core.specs.Layouts.{Layout, fixed, width_of, spelled}
use Rattle.amqp_value_core.specs.Grammar.{long_field, Wire, wire, Raw, raw_fixed, raw_long, raw_octets, raw_array, raw_table, ArrayBody, no_values, value, TableBody, no_pairs, pair}
use Rattle.amqp_value_core.specs.InMemory.{IsNumber, IsScalar, IsValue, AreValues, AreEntries}
use Rattle.amqp_value_core.proofs.Tables.{rising_mean, entries_rise}

-- ---- size

-- the bytes of a number are as many as were asked for
length-bytes_high_first : (k n : ℕ) → length (bytes_high_first k n) ≡ k
length-bytes_high_first zero n = refl
length-bytes_high_first (suc k) n = ap suc (length-bytes_high_first k n)

-- a scalar is encoded in as many bytes as its type has
length-spelled : (x : Scalar) → length (spelled x) ≡ width_of (scalar_type x)
length-spelled (boolean true) = refl
length-spelled (boolean false) = refl
length-spelled (number type n) = length-bytes_high_first (width_of type) n
length-spelled (decimal scale n) = refl
length-spelled void = refl

-- the canonical encoding of a scalar has the width of its type, and one byte
pub size_of_scalar : (x : Scalar) → size (scalar x) ≡ 1 + width_of (scalar_type x)
size_of_scalar x = omega (arith, length-spelled x)

-- values that are joined have their sizes together
pub body_size_more : (v : Tree) (vs : Trees) → body_size (tree v vs) ≡ size v + body_size vs
body_size_more v vs = length-append (text v) (body vs)

-- and pairs, with a key's length and its bytes
pub pairs_size_more : (k : List ℕ) (v : Tree) (es : Entries) → pairs_size (entry k v es) ≡ 1 + length k + (size v + pairs_size es)
pairs_size_more k v es = omega (arith, length-append k (text v ++ pairs es), length-append (text v) (pairs es))

-- so an array and a table take more by what each value takes
pub size_of_array : (v : Tree) (vs : Trees) → size (array (tree v vs)) ≡ size v + size (array vs)
size_of_array v vs = omega (arith, body_size_more v vs)

pub size_of_table : (k : List ℕ) (v : Tree) (es : Entries) → size (table (entry k v es)) ≡ 1 + length k + size v + size (table es)
size_of_table k v es = omega (arith, pairs_size_more k v es)

-- the payload is one byte shorter than the canonical encoding
pub length_of_payload : (v : Tree) → length (payload v) + 1 ≡ size v
length_of_payload v = omega arith

-- ---- values of fixed width

-- x has the layout of its type, is what its bytes mean, and has a type tag that is read
pub record IsSpelled (x : Scalar) : Type 0 where
  pub layout : Layout
  pub row : fixed (scalar_type x) ≡ Some layout
  pub width : length (spelled x) ≡ layout.width
  pub means : layout.denotes (spelled x) ≡ x
  pub id : kind (id_of (scalar_type x)) ≡ Some (scalar_type x)

-- the number that one byte encodes
one_byte : (n : ℕ) → n < 2 ^ 8 → from_be_bytes w8 (bytes_high_first 1 n) ≡ n
one_byte n lt = omega arith

-- the table of numbers
number_spelled : (type : AMQPType) (n : ℕ) → IsNumber type n → IsSpelled (number type n)
number_spelled amqp.ShortShortInt n lt = record { layout = _; row = refl; width = refl; means = ap (number amqp.ShortShortInt) (one_byte n lt); id = refl }
number_spelled amqp.ShortShortUInt n lt = record { layout = _; row = refl; width = refl; means = ap (number amqp.ShortShortUInt) (one_byte n lt); id = refl }
number_spelled amqp.ShortInt n lt = record { layout = _; row = refl; width = refl; means = ap (number amqp.ShortInt) (from_be_bytes-to_be_bytes_2 n lt); id = refl }
number_spelled amqp.ShortUInt n lt = record { layout = _; row = refl; width = refl; means = ap (number amqp.ShortUInt) (from_be_bytes-to_be_bytes_2 n lt); id = refl }
number_spelled amqp.LongInt n lt = record { layout = _; row = refl; width = refl; means = ap (number amqp.LongInt) (from_be_bytes-to_be_bytes_4 n lt); id = refl }
number_spelled amqp.LongUInt n lt = record { layout = _; row = refl; width = refl; means = ap (number amqp.LongUInt) (from_be_bytes-to_be_bytes_4 n lt); id = refl }
number_spelled amqp.LongLongInt n lt = record { layout = _; row = refl; width = refl; means = ap (number amqp.LongLongInt) (from_be_bytes-to_be_bytes_8 n lt); id = refl }
number_spelled amqp.Float n lt = record { layout = _; row = refl; width = refl; means = ap (number amqp.Float) (from_be_bytes-to_be_bytes_4 n lt); id = refl }
number_spelled amqp.Double n lt = record { layout = _; row = refl; width = refl; means = ap (number amqp.Double) (from_be_bytes-to_be_bytes_8 n lt); id = refl }
number_spelled amqp.Timestamp n lt = record { layout = _; row = refl; width = refl; means = ap (number amqp.Timestamp) (from_be_bytes-to_be_bytes_8 n lt); id = refl }
number_spelled _ n none = absurd none

-- the table of scalars
pub scalar_spelled : (x : Scalar) → IsScalar x → IsSpelled x
scalar_spelled (boolean true) _ = record { layout = _; row = refl; width = refl; means = refl; id = refl }
scalar_spelled (boolean false) _ = record { layout = _; row = refl; width = refl; means = refl; id = refl }
scalar_spelled (number type n) is = number_spelled type n is
scalar_spelled (decimal scale n) is =
    record { layout = _; row = refl; width = refl; means = ap₂ decimal (one_byte scale is.0) (from_be_bytes-to_be_bytes_4 n is.1); id = refl }
scalar_spelled void _ = record { layout = _; row = refl; width = refl; means = refl; id = refl }

-- what encodes a scalar is a payload of it
pub scalar_raw : (x : Scalar) → IsScalar x → Raw (scalar_type x) (spelled x) (scalar x)
scalar_raw x is =
    let s = scalar_spelled x is in
    subst (λ (y : Scalar). Raw (scalar_type x) (spelled x) (scalar y)) s.means
    (raw_fixed (scalar_type x) s.layout (spelled x) s.row s.width)

-- ---- all values

-- pairs whose keys are ascending are the payload of a table that has them for entries
abbrev pub rising_raw : (b : List ℕ) (es : Entries) → AreEntries es → length b < 2 ^ 32 → TableBody b es → Raw amqp.FieldTable (long_field b) (table es)
rising_raw b es are fits all = raw_table b es es fits all (rising_mean es (entries_rise es are))

mutual
  -- the canonical encoding of a value is an encoding of it
  pub text_is_wire : (v : Tree) → IsValue v → Fits v → IsTrue (readable v) → Wire (text v) v
  text_is_wire (scalar x) is fits r =
      wire (id_of (scalar_type x)) (scalar_type x) (spelled x) (scalar x) (scalar_spelled x is).id (scalar_raw x is)
  text_is_wire (short s) is fits r = absurd cc
  text_is_wire (long s) is fits r = wire (id_of amqp.LongString) amqp.LongString (long_field s) (long s) refl (raw_long s fits)
  text_is_wire (octets s) is fits r = wire (id_of amqp.ByteArray) amqp.ByteArray (long_field s) (octets s) refl (raw_octets s fits)
  text_is_wire (array vs) is fits r =
      wire (id_of amqp.FieldArray) amqp.FieldArray (long_field (body vs)) (array vs) refl
      (raw_array (body vs) vs fits.0 (texts_are_body vs is fits.1 r))
  text_is_wire (table es) is fits r =
      wire (id_of amqp.FieldTable) amqp.FieldTable (long_field (pairs es)) (table es) refl
      (rising_raw (pairs es) es is fits.0 (texts_are_pairs es is fits.1 r))

  -- canonical encodings that are joined are an array's body
  texts_are_body : (vs : Trees) → AreValues vs → AllFit vs → IsTrue (all_readable vs) → ArrayBody (body vs) vs
  texts_are_body no_trees is fits r = no_values
  texts_are_body (tree v vs) is fits r =
      let both = and_parts (readable v) (all_readable vs) r in
      value (text v) (body vs) v vs (text_is_wire v is.0 fits.0 both.0) (texts_are_body vs is.1 fits.1 both.1)

  -- with keys before them they are a table's pairs
  texts_are_pairs : (es : Entries) → AreEntries es → EntriesFit es → IsTrue (entries_readable es) → TableBody (pairs es) es
  texts_are_pairs no_entries are fits r = no_pairs
  texts_are_pairs (entry k v es) are fits r =
      let both = and_parts (readable v) (entries_readable es) r in
      pair k (text v) (pairs es) v es are.0 (text_is_wire v are.1 fits.0 both.0) (texts_are_pairs es are.3 fits.1 both.1)

-- the payload of a value is one of its type
pub payload_is_raw : (v : Tree) → IsValue v → Fits v → IsTrue (readable v) → Raw (type_of v) (payload v) v
payload_is_raw (scalar x) is fits r = scalar_raw x is
payload_is_raw (short s) is fits r = absurd cc
payload_is_raw (long s) is fits r = raw_long s fits
payload_is_raw (octets s) is fits r = raw_octets s fits
payload_is_raw (array vs) is fits r = raw_array (body vs) vs fits.0 (texts_are_body vs is fits.1 r)
payload_is_raw (table es) is fits r = rising_raw (pairs es) es is fits.0 (texts_are_pairs es is fits.1 r)
