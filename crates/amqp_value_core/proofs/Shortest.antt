-- Shortest: what is read is a value that can be written again, and no encoding of it is shorter
-- than its canonical one.
use Rattle.std.proofs.Common.{◌≡◌, ◌≢◌, ◌≤◌, ℕ, List, ◌++◌, length, take, drop, Option, Some, None, IsTrue, refl, sym, ap, ◌∙◌, subst, arith}
use Rattle.std.specs.Option.{IfSome}
use Rattle.std.specs.Int.{w32, to_be_bytes}
use Rattle.std.proofs.lemmas.Bool.{and_from}
use Rattle.amqp_value_core.specs.declared.types.amqp_type.AMQPType.{AMQPType}
use Rattle.amqp_value_core.specs.declared.types.amqp_type.AMQPType.TheVariants as amqp
use Rattle.amqp_value_core.specs.Values.{Tree, Trees, Entries, no_entries, entry, readable, all_readable, entries_readable}
use Rattle.amqp_value_core.specs.Ids.{kind}
use Rattle.amqp_value_core.specs.Names.{read_as}
use Rattle.amqp_value_core.proofs.Ids.{kind_read}
use Rattle.amqp_value_core.specs.Layouts.{Layout, fixed}
use Rattle.amqp_value_core.specs.Bytes.{IsShort, IsBytes}
use Rattle.amqp_value_core.specs.Grammar.{short_field, Wire, wire, Raw, raw_fixed, raw_short, raw_long, raw_octets, raw_array, raw_table, ArrayBody, no_values, value, TableBody, no_pairs, pair}
use Rattle.amqp_value_core.specs.Texts.{text, Fits, AllFit, EntriesFit}
use Rattle.amqp_value_core.specs.InMemory.{IsScalar, IsValue, AreValues, AreEntries}
use Rattle.amqp_value_core.specs.Maps.{IsRising}
use Rattle.amqp_value_core.proofs.Bytes.{bytes_before, bytes_after, bytes_take, bytes_drop, below_1, below_2, below_4, below_8}
use Rattle.amqp_value_core.proofs.Tables.{Each, each-mean}
use Rattle.amqp_value_core.proofs.Unique.{one_meaning}
use Rattle.amqp_value_core.proofs.Spelling.{text_is_wire}
use Rattle.amqp_value_core.proofs.Bounds.{bounds, array_size, table_size}

-- ---- what is read fits its fields, and is readable

-- no letter denotes a short string
no_short : (c : ℕ) (type : AMQPType) → kind c ≡ Some type → type ≢ amqp.ShortString
no_short c type k e =
    let none : None ≡ Some type = sym (ap read_as e) ∙ kind_read c type k in
    cc

-- a value whose lengths fit their fields, and which is readable
record IsEncodable (v : Tree) : Type 0 where
  pub fits : Fits v
  pub reads : IsTrue (readable v)

-- so is each value of a table
entries_fit : (es : Entries) → Each (λ k v. IsEncodable v) es → EntriesFit es
entries_fit no_entries each = tt
entries_fit (entry k v es) each = (each.0.fits, entries_fit es each.1)

entries_read : (es : Entries) → Each (λ k v. IsEncodable v) es → IsTrue (entries_readable es)
entries_read no_entries each = refl
entries_read (entry k v es) each = and_from (readable v) (entries_readable es) each.0.reads (entries_read es each.1)

mutual
  -- the value of an encoding fits, and is readable
  wire_written : (w : List ℕ) (v : Tree) → Wire w v → IsEncodable v
  wire_written _ _ (wire c type b v k p) = raw_written type b v (no_short c type k) p

  -- so does that of a payload, but of a short string's
  raw_written : (type : AMQPType) (b : List ℕ) (v : Tree) → type ≢ amqp.ShortString → Raw type b v → IsEncodable v
  raw_written _ _ _ other (raw_fixed type f b row len) = record { fits = tt; reads = refl }
  raw_written _ _ _ other (raw_short s is) = absurd (other refl)
  raw_written _ _ _ other (raw_long s fits) = record { fits = fits; reads = refl }
  raw_written _ _ _ other (raw_octets s fits) = record { fits = fits; reads = refl }
  raw_written _ _ _ other (raw_array body vs fits all) =
      let inner = body_written body vs all in
      record { fits = (omega (arith, fits, array_size body vs all), inner.0); reads = inner.1 }
  raw_written _ _ _ other (raw_table body ps es fits all mean) =
      let each = each-mean (λ k v. IsEncodable v) ps es mean (pairs_written body ps all) in
      record { fits = (omega (arith, fits, table_size body ps es all mean), entries_fit es each); reads = entries_read es each }

  body_written : (body : List ℕ) (vs : Trees) → ArrayBody body vs → AllFit vs × IsTrue (all_readable vs)
  body_written _ _ no_values = (tt, refl)
  body_written _ _ (value w more v vs p all) =
      let first = wire_written w v p in
      let others = body_written more vs all in
      ((first.fits, others.0), and_from (readable v) (all_readable vs) first.reads others.1)

  pairs_written : (body : List ℕ) (ps : Entries) → TableBody body ps → Each (λ k v. IsEncodable v) ps
  pairs_written _ _ no_pairs = tt
  pairs_written _ _ (pair k w more v ps is p all) = (wire_written w v p, pairs_written more ps all)

-- ---- what is read of bytes is a value

-- the bytes of each line of the table mean a scalar
abbrev IsRanged : Option Layout → Type 0
IsRanged o = IfSome o (λ f. (b : List ℕ) → IsBytes b → IsScalar (f.denotes b))

rows_ranged : (type : AMQPType) → IsRanged (fixed type)
rows_ranged amqp.Boolean = λ b bytes. tt
rows_ranged amqp.ShortShortInt = λ b bytes. below_1 b bytes
rows_ranged amqp.ShortShortUInt = λ b bytes. below_1 b bytes
rows_ranged amqp.ShortInt = λ b bytes. below_2 b bytes
rows_ranged amqp.ShortUInt = λ b bytes. below_2 b bytes
rows_ranged amqp.LongInt = λ b bytes. below_4 b bytes
rows_ranged amqp.LongUInt = λ b bytes. below_4 b bytes
rows_ranged amqp.LongLongInt = λ b bytes. below_8 b bytes
rows_ranged amqp.LongLongUInt = λ b bytes. below_8 b bytes
rows_ranged amqp.Float = λ b bytes. below_4 b bytes
rows_ranged amqp.Double = λ b bytes. below_8 b bytes
rows_ranged amqp.Timestamp = λ b bytes. below_8 b bytes
rows_ranged amqp.DecimalValue = λ b bytes. (below_1 (take 1 b) (bytes_take 1 b bytes), below_4 (drop 1 b) (bytes_drop 1 b bytes))
rows_ranged amqp.Void = λ b bytes. tt
rows_ranged _ = tt

-- entries whose keys and values are such are a table's, if the keys are ascending
are_entries : (es : Entries) → Each (λ k v. IsShort k × IsValue v) es → IsRising es → AreEntries es
are_entries no_entries each rises = tt
are_entries (entry k v es) each rises = (each.0.0, each.0.1, rises.0, are_entries es each.1 rises.1)

mutual
  -- what is read is a value, if its encoding is bytes
  pub read_is_value : (w : List ℕ) (v : Tree) → IsBytes w → Wire w v → IsValue v
  read_is_value _ _ bytes (wire c type b v k p) = raw_value type b v bytes.1 p

  pub raw_value : (type : AMQPType) (b : List ℕ) (v : Tree) → IsBytes b → Raw type b v → IsValue v
  raw_value _ _ _ bytes (raw_fixed type f b row len) = subst IsRanged row (rows_ranged type) b bytes
  raw_value _ _ _ bytes (raw_short s is) = is
  raw_value _ _ _ bytes (raw_long s fits) = tt
  raw_value _ _ _ bytes (raw_octets s fits) = tt
  raw_value _ _ _ bytes (raw_array body vs fits all) = body_values body vs (bytes_after (to_be_bytes w32 (length body)) body bytes) all
  raw_value _ _ _ bytes (raw_table body ps es fits all mean) =
      let pairs = pairs_values body ps (bytes_after (to_be_bytes w32 (length body)) body bytes) all in
      are_entries es (each-mean (λ k v. IsShort k × IsValue v) ps es mean pairs) mean.rising

  body_values : (body : List ℕ) (vs : Trees) → IsBytes body → ArrayBody body vs → AreValues vs
  body_values _ _ bytes no_values = tt
  body_values _ _ bytes (value w more v vs p all) =
      (read_is_value w v (bytes_before w more bytes) p, body_values more vs (bytes_after w more bytes) all)

  pairs_values : (body : List ℕ) (ps : Entries) → IsBytes body → TableBody body ps → Each (λ k v. IsShort k × IsValue v) ps
  pairs_values _ _ bytes no_pairs = tt
  pairs_values _ _ bytes (pair k w more v ps is p all) =
      let after = bytes_after (short_field k) (w ++ more) bytes in
      ((is, read_is_value w v (bytes_before w more after) p), pairs_values more ps (bytes_after w more after) all)

-- ---- the laws

-- what is read fits its fields, and each value in it has a type tag that is read
pub what_is_read : (w : List ℕ) (v : Tree) → Wire w v → Fits v × IsTrue (readable v)
what_is_read w v p =
    let is = wire_written w v p in
    (is.fits, is.reads)

pub what_raw_reads : (type : AMQPType) (b : List ℕ) (v : Tree) → type ≢ amqp.ShortString → Raw type b v → Fits v × IsTrue (readable v)
what_raw_reads type b v other p =
    let is = raw_written type b v other p in
    (is.fits, is.reads)

-- the canonical encoding of what is read is an encoding of it, and no longer
pub shortest : (w : List ℕ) (v : Tree) → IsBytes w → Wire w v → Wire (text v) v × (length (text v) ≤ length w)
shortest w v bytes p =
    let is = wire_written w v p in
    (text_is_wire v (read_is_value w v bytes p) is.fits is.reads, (bounds w v p).0)

-- and is that of no other
pub same_text_same_value : (w u : List ℕ) (v z : Tree) → Wire w v → Wire u z → IsBytes w → IsBytes u → text v ≡ text z → v ≡ z
same_text_same_value w u v z p q bytes_w bytes_u e =
    one_meaning (text v) (text z) v z (shortest w v bytes_w p).0 (shortest u z bytes_u q).0 e
