-- A canonical encoding (`Canon`) is an encoding (`Wire`) and, if it is bytes, `text` of its value.
-- *TextCanon* has the converse.
use Rattle.std.proofs.Common.{◌≡◌, ◌≢◌, ℕ, zero, suc, Bool, true, false, cond, nat_eq, List, [], ◌∷◌, ◌++◌, length, take, drop, Option, Some, IsTrue, refl, sym, ap, ap₂, ◌∙◌, subst, arith}
use Rattle.std.specs.Map.{lookup}
use Rattle.std.specs.List.{AllByRecursion}
use Rattle.std.specs.Option.{IfSome}
use Rattle.std.specs.Int.{w8, w16, w32, w64, from_be_bytes, to_be_bytes, bytes_high_first}
use Rattle.std.proofs.lemmas.Bool.{eqb-true}
use Rattle.std.proofs.lemmas.List.{nil_from_length}
use Rattle.std.proofs.lemmas.Nat.{be_bytes_2, be_bytes_4, be_bytes_8}
use Rattle.amqp_value_core.specs.declared.types.amqp_type.AMQPType.{AMQPType}
use Rattle.amqp_value_core.specs.declared.types.amqp_type.AMQPType.TheVariants as amqp
use Rattle.amqp_value_core.specs.Values.{boolean, Tree, Trees, Entries, scalar_type, readable, type_of}
use Rattle.amqp_value_core.specs.Texts.{payload, text, body, pairs, Fits}
use Rattle.amqp_value_core.specs.Ids.{letters, kind, id_of}
use Rattle.amqp_value_core.specs.Names.{read_as}
use Rattle.amqp_value_core.specs.Layouts.{Layout, fixed, truth, spelled}
use Rattle.amqp_value_core.specs.Grammar.{short_field, long_field, Wire, wire, Raw, raw_fixed, raw_long, raw_octets, raw_array, raw_table, ArrayBody, no_values, value, TableBody, no_pairs, pair}
use Rattle.amqp_value_core.specs.Bytes.{IsBytes}
use Rattle.amqp_value_core.specs.Maps.{IsRising}
use Rattle.amqp_value_core.specs.Canonical.{IsStrict, Canon, canon, CanonRaw, canon_fixed, canon_long, canon_octets, canon_array, canon_table, CanonBody, canon_no_values, canon_value, CanonPairs, canon_no_pairs, canon_pair}
use Rattle.amqp_value_core.proofs.Bytes.{bytes_before, bytes_after, byte_at}
use Rattle.amqp_value_core.proofs.Tables.{rising_mean}
use Rattle.amqp_value_core.proofs.Ids.{kind_read}
use Rattle.amqp_value_core.proofs.Shortest.{what_is_read}

-- ---- they are encodings

-- the keys of canonical pairs are ascending
pub canon_rises : (body : List ℕ) (es : Entries) → CanonPairs body es → IsRising es
canon_rises _ _ canon_no_pairs = tt
canon_rises _ _ (canon_pair k w rest v es key first before others) = (before, canon_rises rest es others)

mutual
  -- a canonical encoding is an encoding
  pub canon_is_wire : (w : List ℕ) (v : Tree) → Canon w v → Wire w v
  canon_is_wire _ _ (canon c type b v k not_U not_L p) = wire c type b v k (canon_is_raw type b v p)

  canon_is_raw : (type : AMQPType) (b : List ℕ) (v : Tree) → CanonRaw type b v → Raw type b v
  canon_is_raw _ _ _ (canon_fixed type f b row len strict) = raw_fixed type f b row len
  canon_is_raw _ _ _ (canon_long s fits) = raw_long s fits
  canon_is_raw _ _ _ (canon_octets s fits) = raw_octets s fits
  canon_is_raw _ _ _ (canon_array body vs fits all) = raw_array body vs fits (canon_is_body body vs all)
  canon_is_raw _ _ _ (canon_table body es fits all) = raw_table body es es fits (canon_is_pairs body es all) (rising_mean es (canon_rises body es all))

  canon_is_body : (body : List ℕ) (vs : Trees) → CanonBody body vs → ArrayBody body vs
  canon_is_body _ _ canon_no_values = no_values
  canon_is_body _ _ (canon_value w rest v vs first others) = value w rest v vs (canon_is_wire w v first) (canon_is_body rest vs others)

  canon_is_pairs : (body : List ℕ) (es : Entries) → CanonPairs body es → TableBody body es
  canon_is_pairs _ _ canon_no_pairs = no_pairs
  canon_is_pairs _ _ (canon_pair k w rest v es key first before others) = pair k w rest v es key (canon_is_wire w v first) (canon_is_pairs rest es others)

-- its value fits its fields, and is readable
pub canon_fits : (w : List ℕ) (v : Tree) → Canon w v → Fits v × IsTrue (readable v)
canon_fits w v p = what_is_read w v (canon_is_wire w v p)

-- ---- type tags

-- what holds of each line of a table holds of what is found at a letter
row_at : (P : ℕ → AMQPType → Type 0) (c : ℕ) (rows : List (ℕ × AMQPType)) → AllByRecursion (λ r. P r.0 r.1) rows → IfSome (lookup (nat_eq c) rows) (P c)
row_at P c [] all = tt
row_at P c (r ∷ rows) all = by (nat_eq c r.0) refl (row_at P c rows all.1)
  where
    by : (t : Bool) → nat_eq c r.0 ≡ t → IfSome (lookup (nat_eq c) rows) (P c) → IfSome (cond t (Some r.1) (lookup (nat_eq c) rows)) (P c)
    by true is after = subst (λ d. P d r.1) (sym (eqb-true c r.0 is)) all.0
    by false is after = after

-- a letter that is no alternate tag is the one that is written
abbrev IsFirst : ℕ → AMQPType → Type 0
IsFirst c type = c ≢ 85 → c ≢ 76 → c ≡ id_of type

one_letter : (type : AMQPType) → IsFirst (id_of type) type
one_letter type not_U not_L = refl

rows_first : AllByRecursion (λ (r : ℕ × AMQPType). IsFirst r.0 r.1) letters
rows_first = (
  one_letter amqp.Boolean,
  (
    one_letter amqp.ShortShortInt,
    (
      one_letter amqp.ShortShortUInt,
      (
        one_letter amqp.ShortInt,
        (
          λ not_U not_L. absurd (not_U refl),
          (
            one_letter amqp.ShortUInt,
            (
              one_letter amqp.LongInt,
              (
                one_letter amqp.LongUInt,
                (
                  one_letter amqp.LongLongInt,
                  (
                    λ not_U not_L. absurd (not_L refl),
                    (
                      one_letter amqp.Float,
                      (
                        one_letter amqp.Double,
                        (
                          one_letter amqp.DecimalValue,
                          (
                            one_letter amqp.LongString,
                            (
                              one_letter amqp.FieldArray,
                              (
                                one_letter amqp.Timestamp,
                                (one_letter amqp.FieldTable, (one_letter amqp.ByteArray, (one_letter amqp.Void, tt))),
                              ),
                            ),
                          ),
                        ),
                      ),
                    ),
                  ),
                ),
              ),
            ),
          ),
        ),
      ),
    ),
  ),
)

kind_first : (c : ℕ) (type : AMQPType) → kind c ≡ Some type → IsFirst c type
kind_first c type k = subst (λ (o : Option AMQPType). IfSome o (IsFirst c)) k (row_at IsFirst c letters rows_first)

-- ---- payloads of fixed width

-- one byte is encoded unchanged
be_byte : (b : List ℕ) → length b ≡ 1 → IsBytes b → bytes_high_first 1 (from_be_bytes w8 b) ≡ b
be_byte [] one bytes = absurd (omega arith)
be_byte (c ∷ []) one bytes = ap (λ (n : ℕ). n ∷ []) (omega (arith, bytes.0))
be_byte (c ∷ d ∷ b) one bytes = absurd (omega arith)

-- 0 and 1 are encoded unchanged
be_truth : (b : List ℕ) → length b ≡ 1 → IsStrict amqp.Boolean b → spelled (boolean (truth (from_be_bytes w8 b))) ≡ b
be_truth [] one strict = absurd (omega arith)
be_truth (zero ∷ []) one strict = refl
be_truth (suc zero ∷ []) one strict = refl
be_truth (suc (suc n) ∷ []) one strict = absurd (omega arith)
be_truth (c ∷ d ∷ b) one strict = absurd (omega arith)

-- a scale and a number are encoded unchanged
be_decimal : (b : List ℕ) → length b ≡ 5 → IsBytes b
    → bytes_high_first 1 (from_be_bytes w8 (take 1 b)) ++ bytes_high_first 4 (from_be_bytes w32 (drop 1 b)) ≡ b
be_decimal [] five bytes = absurd (omega arith)
be_decimal (c ∷ b) five bytes =
    ap₂ ◌++◌ (be_byte (c ∷ []) refl (bytes.0, tt)) (be_bytes_4 b (from_be_bytes w32 b) (omega arith) (byte_at b bytes.1) refl)

-- bytes of a line of the layouts are encoded for what they mean, and that has the line's type
abbrev IsUndone : AMQPType → Option Layout → Type 0
IsUndone type o = IfSome o (λ f. (b : List ℕ) → length b ≡ f.width → IsStrict type b → IsBytes b
    → (type ≡ scalar_type (f.denotes b)) × (spelled (f.denotes b) ≡ b))

-- the table of layouts; a letter denotes no LongLongUInt
rows_undone : (type : AMQPType) → read_as type ≡ Some type → IsUndone type (fixed type)
rows_undone amqp.Boolean read = λ b len strict bytes. (refl, be_truth b len strict)
rows_undone amqp.ShortShortInt read = λ b len strict bytes. (refl, be_byte b len bytes)
rows_undone amqp.ShortShortUInt read = λ b len strict bytes. (refl, be_byte b len bytes)
rows_undone amqp.ShortInt read = λ b len strict bytes. (refl, be_bytes_2 b (from_be_bytes w16 b) len (byte_at b bytes) refl)
rows_undone amqp.ShortUInt read = λ b len strict bytes. (refl, be_bytes_2 b (from_be_bytes w16 b) len (byte_at b bytes) refl)
rows_undone amqp.LongInt read = λ b len strict bytes. (refl, be_bytes_4 b (from_be_bytes w32 b) len (byte_at b bytes) refl)
rows_undone amqp.LongUInt read = λ b len strict bytes. (refl, be_bytes_4 b (from_be_bytes w32 b) len (byte_at b bytes) refl)
rows_undone amqp.LongLongInt read = λ b len strict bytes. (refl, be_bytes_8 b (from_be_bytes w64 b) len (byte_at b bytes) refl)
rows_undone amqp.LongLongUInt read = absurd cc
rows_undone amqp.Float read = λ b len strict bytes. (refl, be_bytes_4 b (from_be_bytes w32 b) len (byte_at b bytes) refl)
rows_undone amqp.Double read = λ b len strict bytes. (refl, be_bytes_8 b (from_be_bytes w64 b) len (byte_at b bytes) refl)
rows_undone amqp.Timestamp read = λ b len strict bytes. (refl, be_bytes_8 b (from_be_bytes w64 b) len (byte_at b bytes) refl)
rows_undone amqp.DecimalValue read = λ b len strict bytes. (refl, be_decimal b len bytes)
rows_undone amqp.Void read = λ b len strict bytes. (refl, sym (nil_from_length b len))
rows_undone _ read = tt

-- ---- they are `text`

mutual
  -- a canonical encoding of bytes is `text` of its value
  pub canon_is_text : (w : List ℕ) (v : Tree) → IsBytes w → Canon w v → w ≡ text v
  canon_is_text _ _ bytes (canon c type b v k not_U not_L p) =
      let same = raw_is_payload type b v (kind_read c type k) bytes.1 p in
      ap₂ ◌∷◌ (kind_first c type k not_U not_L ∙ ap id_of same.0) same.1

  -- its payload is that of its value, and has its type
  raw_is_payload : (type : AMQPType) (b : List ℕ) (v : Tree) → read_as type ≡ Some type → IsBytes b → CanonRaw type b v → (type ≡ type_of v) × (b ≡ payload v)
  raw_is_payload _ _ _ read bytes (canon_fixed type f b row len strict) =
      let is = subst (IsUndone type) row (rows_undone type read) b len strict bytes in
      (is.0, sym is.1)
  raw_is_payload _ _ _ read bytes (canon_long s fits) = (refl, refl)
  raw_is_payload _ _ _ read bytes (canon_octets s fits) = (refl, refl)
  raw_is_payload _ _ _ read bytes (canon_array b vs fits all) =
      (refl, ap long_field (body_is_texts b vs (bytes_after (to_be_bytes w32 (length b)) b bytes) all))
  raw_is_payload _ _ _ read bytes (canon_table b es fits all) =
      (refl, ap long_field (pairs_are_keyed b es (bytes_after (to_be_bytes w32 (length b)) b bytes) all))

  -- canonical encodings one after another are `text` of the values, joined
  body_is_texts : (b : List ℕ) (vs : Trees) → IsBytes b → CanonBody b vs → b ≡ body vs
  body_is_texts _ _ bytes canon_no_values = refl
  body_is_texts _ _ bytes (canon_value w more v vs first others) =
      ap₂ ◌++◌ (canon_is_text w v (bytes_before w more bytes) first) (body_is_texts more vs (bytes_after w more bytes) others)

  -- with keys before them too
  pairs_are_keyed : (b : List ℕ) (es : Entries) → IsBytes b → CanonPairs b es → b ≡ pairs es
  pairs_are_keyed _ _ bytes canon_no_pairs = refl
  pairs_are_keyed _ _ bytes (canon_pair k w more v es key first before others) =
      let after = bytes_after (short_field k) (w ++ more) bytes in
      ap (λ (x : List ℕ). short_field k ++ x)
      (ap₂ ◌++◌ (canon_is_text w v (bytes_before w more after) first) (pairs_are_keyed more es (bytes_after w more after) others))

-- all of this
pub canonical_wire : (w : List ℕ) (v : Tree) → Canon w v → IsBytes w → Wire w v × Fits v × IsTrue (readable v) × (w ≡ text v)
canonical_wire w v p bytes =
    let written = canon_fits w v p in
    (canon_is_wire w v p, written.0, written.1, canon_is_text w v bytes p)
