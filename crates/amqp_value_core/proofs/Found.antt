-- `outcome_by` finds each encoding (`WireWithin`), whatever follows it. *Sound* has the converse.
use Rattle.std.proofs.Common.{ℕ, suc, zero, ◌+◌, ◌≤◌, ◌≡◌, ◌≢◌, ◌∙◌, ap, sym, refl, subst, Bool, true, ◌&&◌, Option, Some, None, option_map, List, [], ◌∷◌, ◌++◌, length, take, drop, arith, append_assoc, length-append}
use Rattle.std.proofs.Math.Seq.{take-append_seam, drop-append_seam}
use Rattle.std.proofs.lemmas.Bool.{le-leb}
use Rattle.std.proofs.lemmas.Nat.{from_be_bytes-to_be_bytes_4}
use Rattle.std.proofs.lemmas.Str.{is_utf8-from_IsUtf8}
use Rattle.std.specs.Prelude.{cond}
use Rattle.std.specs.Int.{w32, byte_len, from_be_bytes, to_be_bytes}
use Rattle.amqp_value_core.specs.declared.types.amqp_type.AMQPType.{AMQPType}
use Rattle.amqp_value_core.specs.declared.types.amqp_type.AMQPType.TheVariants as amqp
use Rattle.amqp_value_core.specs.Values.{Tree, scalar, short, long, octets, array, table, Trees, tree, Entries, no_entries}
use Rattle.amqp_value_core.specs.Maps.{insert, insert_all}
use Rattle.amqp_value_core.specs.Layouts.{Layout, fixed}
use Rattle.amqp_value_core.specs.Bytes.{IsShort}
use Rattle.amqp_value_core.specs.Grammar.{Wire, Raw, short_field, wire, raw_fixed, raw_short, raw_long, raw_octets, raw_array, raw_table}
use Rattle.amqp_value_core.specs.Nesting.{WireWithin, within_wire, RawWithin, within_plain, within_array, within_table, BodyWithin, within_no_values, within_value, PairsWithin, within_no_pairs, within_pair}
use Rattle.amqp_value_core.proofs.Nests.{wire_of}
use Rattle.amqp_value_core.specs.Outcomes.{Reading, found, more, unknown, malformed, length_field, counted, lack_of}
use Rattle.amqp_value_core.specs.Decode.{Meaning, framed, raw_outcome_by, outcome_by, values_by, is_short, is_key, pairs_onto, meaning}
use Rattle.amqp_value_core.proofs.Tables.{mean_put}
use Rattle.amqp_value_core.proofs.Headers.{FirstWithin, first_within, lack_of-none, length-wire}

-- the cases of reading, under names: by what the type tag denotes
abbrev pub by_kind : Option AMQPType → Meaning → List ℕ → Reading
by_kind k mean b = elim k [ None ↦ unknown | Some type ↦ raw_outcome_by mean type b ]

-- by the payload's layout
abbrev pub by_layout : Option Layout → Meaning → AMQPType → List ℕ → Reading
by_layout f mean type b = elim f [
  | Some f ↦ found (scalar (f.denotes (take f.width b))) (drop f.width b)
  | None ↦ framed (length_field type) (mean type) b
]

-- by what is missing
abbrev pub by_lack : ℕ → Meaning → AMQPType → List ℕ → Reading
by_lack n mean type b = elim n [ suc n ↦ more (suc n) | zero ↦ by_layout (fixed type) mean type b ]

-- by what the bytes after a length field mean
abbrev pub by_meaning : Option Tree → List ℕ → Reading
by_meaning v rest = elim v [ Some v ↦ found v rest | None ↦ malformed ]

-- by what the first of some values is
abbrev pub and_others : (List ℕ → Reading) → ℕ → Reading → Option Trees
and_others read n o = elim o [ found v rest ↦ option_map (tree v) (values_by read n rest) | _ ↦ None ]

-- by what is after the first of some keys
abbrev pub and_pairs : (List ℕ → Reading) → ℕ → Entries → List ℕ → Reading → Option Entries
and_pairs read n es k o = elim o [ found v rest ↦ pairs_onto read n (insert k v es) rest | _ ↦ None ]

-- by whether the first of some keys is one
abbrev pub and_key : Bool → Option Entries → Option Entries
and_key t es = cond t es None

-- a payload of fixed width is found
fixed_found : (mean : Meaning) (type : AMQPType) (f : Layout) (b rest : List ℕ) → fixed type ≡ Some f → length b ≡ f.width
    → raw_outcome_by mean type (b ++ rest) ≡ found (scalar (f.denotes b)) rest
fixed_found mean type f b rest is wide =
    let whole = lack_of-none (Some f) (length_field type) (b ++ rest) (subst FirstWithin is (first_within type)) (omega (arith, length-append b rest)) in
    let prefix : take f.width (b ++ rest) ≡ b = ap (λ n. take n (b ++ rest)) (sym wide) ∙ take-append_seam b rest in
    let after : drop f.width (b ++ rest) ≡ rest = ap (λ n. drop n (b ++ rest)) (sym wide) ∙ drop-append_seam b rest in
    ap (λ n. by_lack n mean type (b ++ rest)) (ap (λ o. lack_of o (length_field type) (b ++ rest)) is ∙ whole)
    ∙ (ap (λ o. by_layout o mean type (b ++ rest)) is ∙ λ i. found (scalar (f.denotes (prefix i))) (after i))

-- a payload with a length field is found, if the bytes that it counts have a meaning
framed_found : (mean : Meaning) (type : AMQPType) (l s rest : List ℕ) (v : Tree) → fixed type ≡ None
    → length l ≡ byte_len (length_field type) → from_be_bytes (length_field type) l ≡ length s → mean type s ≡ Some v
    → raw_outcome_by mean type ((l ++ s) ++ rest) ≡ found v rest
framed_found mean type l s rest v is field_wide counts means =
    let w = length_field type in
    let b = (l ++ s) ++ rest in
    let field : take (byte_len w) b ≡ l =
    ap (λ n. take n b) (sym field_wide) ∙ (ap (take (length l)) (append_assoc l s rest) ∙ take-append_seam l (s ++ rest)) in
    let after : drop (byte_len w) b ≡ s ++ rest =
    ap (λ n. drop n b) (sym field_wide) ∙ (ap (drop (length l)) (append_assoc l s rest) ∙ drop-append_seam l (s ++ rest)) in
    let n : counted w b ≡ length s = ap (from_be_bytes w) field ∙ counts in
    let size : length b ≡ length l + length s + length rest = length-append (l ++ s) rest ∙ ap (λ k. k + length rest) (length-append l s) in
    let whole = lack_of-none None w b tt (omega arith) in
    ap (λ k. by_lack k mean type b) (ap (λ o. lack_of o w b) is ∙ whole)
    ∙ (ap (λ o. by_layout o mean type b) is
    ∙ ((λ i. by_meaning (mean type (take (n i) (after i))) (drop (n i) (after i)))
    ∙ ((λ i. by_meaning (mean type (take-append_seam s rest i)) (drop-append_seam s rest i))
    ∙ ap (λ o. by_meaning o rest) means)))

-- a short string is found to be one
is_short-true : (s : List ℕ) → IsShort s → is_short s ≡ true
is_short-true s is = λ i. le-leb (length s) 255 is.few i && is_utf8-from_IsUtf8 s is.utf8 i

-- a key at the start is found to be one
is_key-true : (k s : List ℕ) → IsShort k → is_key (length k) (k ++ s) ≡ true
is_key-true k s is =
    λ i. le-leb (length k) (length (k ++ s)) (omega (arith, length-append k s)) i && (ap is_short (take-append_seam k s) ∙ is_short-true k is) i

-- what starts with a value's encoding is that value, and then the others
value_first : (read : List ℕ → Reading) (n : ℕ) (w rest : List ℕ) (v : Tree) → Wire w v → length (w ++ rest) ≤ suc n
    → read (w ++ rest) ≡ found v rest → values_by read (suc n) (w ++ rest) ≡ option_map (tree v) (values_by read n rest)
value_first read n _ rest _ (wire c type b v is raw) enough first = ap (and_others read n) first

-- what starts with a key and a value's encoding is that pair, and then the others
pair_first : (read : List ℕ → Reading) (n : ℕ) (es : Entries) (k t rest : List ℕ) (v : Tree) → IsShort k → read t ≡ found v rest
    → pairs_onto read (suc n) es (short_field k ++ t) ≡ pairs_onto read n (insert k v es) rest
pair_first read n es k t rest v key first =
    (λ i. and_key (is_key-true k t key i) (and_pairs read n es (take-append_seam k t i) (read (drop-append_seam k t i))))
    ∙ ap (and_pairs read n es k) first

-- a payload that isn't a container's is found
plain_found : (depth : ℕ) (type : AMQPType) (b rest : List ℕ) (v : Tree) → type ≢ amqp.FieldArray → type ≢ amqp.FieldTable → Raw type b v
    → raw_outcome_by (meaning depth) type (b ++ rest) ≡ found v rest
plain_found depth _ _ rest _ no_array no_table (raw_fixed type f b is wide) = fixed_found (meaning depth) type f b rest is wide
plain_found depth _ _ rest _ no_array no_table (raw_short s is) =
    framed_found (meaning depth) amqp.ShortString (length s ∷ []) s rest (short s) refl refl refl (ap (λ t. cond t (Some (short s)) None) (is_short-true s is))
plain_found depth _ _ rest _ no_array no_table (raw_long s fits) =
    framed_found (meaning depth) amqp.LongString (to_be_bytes w32 (length s)) s rest (long s) refl refl (from_be_bytes-to_be_bytes_4 (length s) fits) refl
plain_found depth _ _ rest _ no_array no_table (raw_octets s fits) =
    framed_found (meaning depth) amqp.ByteArray (to_be_bytes w32 (length s)) s rest (octets s) refl refl (from_be_bytes-to_be_bytes_4 (length s) fits) refl
plain_found depth _ _ rest _ no_array no_table (raw_array body vs fits all) = absurd (no_array refl)
plain_found depth _ _ rest _ no_array no_table (raw_table body ps es fits all means) = absurd (no_table refl)

mutual
  -- every encoding that nests no deeper is found
  pub found_wire : (depth : ℕ) (w rest : List ℕ) (v : Tree) → WireWithin depth w v → outcome_by (meaning depth) (w ++ rest) ≡ found v rest
  found_wire _ _ rest _ (within_wire depth c type b v is raw) =
      ap (λ k. by_kind k (meaning depth) (b ++ rest)) is ∙ found_raw depth type b rest v raw

  -- so is every payload
  pub found_raw : (depth : ℕ) (type : AMQPType) (b rest : List ℕ) (v : Tree) → RawWithin depth type b v → raw_outcome_by (meaning depth) type (b ++ rest) ≡ found v rest
  found_raw _ _ _ rest _ (within_plain depth type b v no_array no_table p) = plain_found depth type b rest v no_array no_table p
  found_raw _ _ _ rest _ (within_array depth body vs fits all) =
      framed_found (meaning (suc depth)) amqp.FieldArray (to_be_bytes w32 (length body)) body rest (array vs) refl refl (from_be_bytes-to_be_bytes_4 (length body) fits)
      (ap (option_map array) (found_body depth (length body) body vs all (omega arith)))
  found_raw _ _ _ rest _ (within_table depth body ps es fits all mean) =
      framed_found (meaning (suc depth)) amqp.FieldTable (to_be_bytes w32 (length body)) body rest (table es) refl refl (from_be_bytes-to_be_bytes_4 (length body) fits)
      (ap (option_map table) (found_pairs depth (length body) no_entries body ps all (omega arith) ∙ ap Some (sym (mean_put ps es mean))))

  -- and a body's values are those that it encodes
  found_body : (depth n : ℕ) (body : List ℕ) (vs : Trees) → BodyWithin depth body vs → length body ≤ n → values_by (outcome_by (meaning depth)) n body ≡ Some vs
  found_body _ n _ _ (within_no_values depth) enough = refl
  found_body _ zero _ _ (within_value depth w rest v vs first others) enough = absurd (omega (arith, length-append w rest, length-wire w v (wire_of depth w v first)))
  found_body _ (suc n) _ _ (within_value depth w rest v vs first others) enough =
      let p = wire_of depth w v first in
      value_first (outcome_by (meaning depth)) n w rest v p enough (found_wire depth w rest v first)
      ∙ ap (option_map (tree v)) (found_body depth n rest vs others (omega (arith, length-append w rest, length-wire w v p)))

  -- and its pairs are put one after another
  found_pairs : (depth n : ℕ) (es : Entries) (body : List ℕ) (ps : Entries) → PairsWithin depth body ps → length body ≤ n
      → pairs_onto (outcome_by (meaning depth)) n es body ≡ Some (insert_all es ps)
  found_pairs _ n es _ _ (within_no_pairs depth) enough = refl
  found_pairs _ zero es _ _ (within_pair depth k w rest v ps key first others) enough = absurd (omega arith)
  found_pairs _ (suc n) es _ _ (within_pair depth k w rest v ps key first others) enough =
      pair_first (outcome_by (meaning depth)) n es k (w ++ rest) rest v key (found_wire depth w rest v first)
      ∙ found_pairs depth n (insert k v es) rest ps others (omega (arith, length-append k (w ++ rest), length-append w rest, length-wire w v (wire_of depth w v first)))
