-- `text` of a value that was read from bytes is bytes, and so is that of a table into which such a
-- value is inserted.
use Rattle.std.proofs.Common.{ℕ, suc, zero, ◌<◌, List, length, arith, false, true, ◌++◌}
use Rattle.std.specs.Int.{w32, to_be_bytes, bytes_high_first}
use Rattle.amqp_value_core.specs.declared.types.amqp_type.AMQPType.{AMQPType}
use Rattle.amqp_value_core.specs.declared.types.amqp_type.AMQPType.TheVariants as amqp
use Rattle.amqp_value_core.specs.Values.{Scalar, boolean, number, decimal, void, Tree, table, Trees, Entries, no_entries, entry, type_of}
use Rattle.amqp_value_core.specs.Maps.{insert}
use Rattle.amqp_value_core.specs.Ids.{id_of}
use Rattle.amqp_value_core.specs.Bytes.{IsShort, IsBytes}
use Rattle.amqp_value_core.specs.Layouts.{width_of, spelled}
use Rattle.amqp_value_core.specs.Grammar.{short_field, long_field, Wire, wire, Raw, raw_fixed, raw_short, raw_long, raw_octets, raw_array, raw_table, ArrayBody, no_values, value, TableBody, no_pairs, pair}
use Rattle.amqp_value_core.specs.Texts.{payload, text, body, pairs}
use Rattle.amqp_value_core.proofs.Bytes.{bytes_before, bytes_after, bytes_join}
use Rattle.amqp_value_core.proofs.Tables.{Each, each-mean, each-insert}

-- ---- numbers and lengths

-- the bytes of a number
number_bytes : (k n : ℕ) → IsBytes (bytes_high_first k n)
number_bytes zero n = tt
number_bytes (suc zero) n = (omega arith, tt)
number_bytes (suc (suc k)) n = (omega arith, number_bytes (suc k) n)

-- a scalar is encoded in bytes
spelled_bytes : (x : Scalar) → IsBytes (spelled x)
spelled_bytes (boolean true) = (omega arith, tt)
spelled_bytes (boolean false) = (omega arith, tt)
spelled_bytes (number type n) = number_bytes (width_of type) n
spelled_bytes (decimal scale n) = bytes_join (bytes_high_first 1 scale) (bytes_high_first 4 n) (number_bytes 1 scale) (number_bytes 4 n)
spelled_bytes void = tt

-- a type tag is a byte
id_byte : (type : AMQPType) → id_of type < 256
id_byte amqp.Void = omega arith
id_byte _ = omega arith

-- bytes after their length are bytes
long_field_bytes : (s : List ℕ) → IsBytes s → IsBytes (long_field s)
long_field_bytes s bytes = bytes_join (to_be_bytes w32 (length s)) s (number_bytes 4 (length s)) bytes

short_field_bytes : (s : List ℕ) → IsShort s → IsBytes s → IsBytes (short_field s)
short_field_bytes s is bytes = (omega (arith, is.few), bytes)

-- ---- what was read from bytes

-- a key after its length, and the canonical encoding of its value, are bytes
abbrev HasBytes : List ℕ → Tree → Type 0
HasBytes k v = IsBytes (short_field k) × IsBytes (text v)

pairs_bytes : (es : Entries) → Each HasBytes es → IsBytes (pairs es)
pairs_bytes no_entries each = tt
pairs_bytes (entry k v es) each = bytes_join (short_field k) (text v ++ pairs es) each.0.0 (bytes_join (text v) (pairs es) each.0.1 (pairs_bytes es each.1))

each_bytes : (es : Entries) → IsBytes (pairs es) → Each HasBytes es
each_bytes no_entries bytes = tt
each_bytes (entry k v es) bytes =
    let after = bytes_after (short_field k) (text v ++ pairs es) bytes in
    ((bytes_before (short_field k) (text v ++ pairs es) bytes, bytes_before (text v) (pairs es) after), each_bytes es (bytes_after (text v) (pairs es) after))

mutual
  -- the canonical encoding of what is read is bytes, if what it was read from is
  pub text_bytes : (w : List ℕ) (v : Tree) → IsBytes w → Wire w v → IsBytes (text v)
  text_bytes _ _ bytes (wire c type b v k p) = (id_byte (type_of v), payload_bytes type b v bytes.1 p)

  -- and so is its payload
  pub payload_bytes : (type : AMQPType) (b : List ℕ) (v : Tree) → IsBytes b → Raw type b v → IsBytes (payload v)
  payload_bytes _ _ _ bytes (raw_fixed type f b row len) = spelled_bytes (f.denotes b)
  payload_bytes _ _ _ bytes (raw_short s is) = bytes
  payload_bytes _ _ _ bytes (raw_long s fits) = bytes
  payload_bytes _ _ _ bytes (raw_octets s fits) = bytes
  payload_bytes _ _ _ bytes (raw_array b vs fits all) = long_field_bytes (body vs) (body_bytes b vs (bytes_after (to_be_bytes w32 (length b)) b bytes) all)
  payload_bytes _ _ _ bytes (raw_table b ps es fits all mean) =
      long_field_bytes (pairs es) (pairs_bytes es (each-mean HasBytes ps es mean (each_read b ps (bytes_after (to_be_bytes w32 (length b)) b bytes) all)))

  body_bytes : (b : List ℕ) (vs : Trees) → IsBytes b → ArrayBody b vs → IsBytes (body vs)
  body_bytes _ _ bytes no_values = tt
  body_bytes _ _ bytes (value w more v vs p all) =
      bytes_join (text v) (body vs) (text_bytes w v (bytes_before w more bytes) p) (body_bytes more vs (bytes_after w more bytes) all)

  each_read : (b : List ℕ) (ps : Entries) → IsBytes b → TableBody b ps → Each HasBytes ps
  each_read _ _ bytes no_pairs = tt
  each_read _ _ bytes (pair k w more v ps is p all) =
      let after = bytes_after (short_field k) (w ++ more) bytes in
      ((bytes_before (short_field k) (w ++ more) bytes, text_bytes w v (bytes_before w more after) p), each_read more ps (bytes_after w more after) all)

-- ---- what is inserted

-- what is written of a table is bytes if a value that is written as bytes is inserted
pub insert_bytes : (k : List ℕ) (v : Tree) (es : Entries) → IsShort k → IsBytes k → IsBytes (text v) → IsBytes (text (table es)) → IsBytes (text (table (insert k v es)))
insert_bytes k v es short key here others =
    let each = each_bytes es (bytes_after (to_be_bytes w32 (length (pairs es))) (pairs es) others.1) in
    let all = each-insert HasBytes k v es (short_field_bytes k short key, here) each in
    (id_byte amqp.FieldTable, long_field_bytes (pairs (insert k v es)) (pairs_bytes (insert k v es) all))
