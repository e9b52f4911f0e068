-- `outcome_by` finds nothing but encodings (`WireWithin`). *Found* has the converse.
use Rattle.std.proofs.Common.{ℕ, suc, zero, ◌<◌, ◌^◌, ◌≡◌, ◌∙◌, ap, sym, refl, subst, Bool, true, false, Option, Some, None, option_map, List, [], ◌∷◌, ◌++◌, length, take, drop, arith, append_assoc, length-take, length-drop}
use Rattle.std.proofs.lemmas.Bool.{leb-true, and_parts}
use Rattle.std.proofs.lemmas.List.{take-append-drop}
use Rattle.std.proofs.lemmas.Nat.{be_bytes_4}
use Rattle.std.proofs.lemmas.Str.{IsUtf8-from_is_utf8}
use Rattle.std.specs.Prelude.{cond, nat_le, MatchOption}
use Rattle.std.specs.Str.{is_utf8}
use Rattle.std.specs.Option.{IfSome}
use Rattle.std.specs.Int.{w8, w32, byte_len, from_be_bytes, to_be_bytes}
use Rattle.amqp_value_core.specs.declared.types.amqp_type.AMQPType.{AMQPType}
use Rattle.amqp_value_core.specs.declared.types.amqp_type.AMQPType.TheVariants as amqp
use Rattle.amqp_value_core.specs.Values.{Tree, short, long, octets, array, table, Trees, tree, Entries, no_entries, entry}
use Rattle.amqp_value_core.specs.Maps.{insert, insert_all, Mean}
use Rattle.amqp_value_core.specs.Ids.{kind}
use Rattle.amqp_value_core.specs.Layouts.{Layout, fixed}
use Rattle.amqp_value_core.specs.Bytes.{IsShort, IsBytes}
use Rattle.amqp_value_core.specs.Grammar.{short_field, long_field, raw_short, raw_long, raw_octets}
use Rattle.amqp_value_core.specs.Nesting.{WireWithin, within_wire, RawWithin, within_plain, within_array, within_table, BodyWithin, within_no_values, within_value, PairsWithin, within_no_pairs, within_pair}
use Rattle.amqp_value_core.proofs.Nests.{fixed_within}
use Rattle.amqp_value_core.specs.Outcomes.{Reading, found, more, unknown, malformed, length_field, counted, lack, lack_of, frame_lack}
use Rattle.amqp_value_core.specs.Decode.{Meaning, framed, raw_outcome_by, outcome_by, values_by, is_short, is_key, pairs_onto, meaning}
use Rattle.amqp_value_core.proofs.Bytes.{bytes_after, bytes_take, bytes_drop, byte_at}
use Rattle.amqp_value_core.proofs.Tables.{put_mean}
use Rattle.amqp_value_core.proofs.Headers.{payload_extent_of-whole}
use Rattle.amqp_value_core.proofs.Outcomes.{NeedsMoreOr, NeedsMoreOr-weaker}
use Rattle.amqp_value_core.proofs.Found.{by_kind, by_layout, by_lack, by_meaning, and_others, and_pairs, and_key}

-- P holds of a prefix of s and the value that was found in it, or s is rejected
abbrev pub PrefixOrError : (List ℕ → Tree → Type 0) → List ℕ → Reading → Type 0
PrefixOrError P s (found v rest) = (b : List ℕ) × P b v × (s ≡ b ++ rest)
PrefixOrError P s malformed = Unit {0}
PrefixOrError P s _ = ⊥

-- P holds of a prefix of s and the value that was found in it, if one was
abbrev IfFound : (List ℕ → Tree → Type 0) → List ℕ → Reading → Type 0
IfFound P s (found v rest) = (b : List ℕ) × P b v × (s ≡ b ++ rest)
IfFound P s _ = Unit {0}

-- reading a payload returns what is missing, otherwise finds a payload or fails
abbrev pub RawEnds : ℕ → AMQPType → List ℕ → Reading → Type 0
RawEnds depth type b o = NeedsMoreOr (lack type b) (PrefixOrError (RawWithin depth type) b o) o

-- reading a value returns what is missing, or that there is no type tag, else finds an encoding
-- or fails
abbrev pub WireEnds : ℕ → List ℕ → Reading → Type 0
WireEnds depth [] o = o ≡ more 1
WireEnds depth (c ∷ b) o = MatchOption (kind c) (o ≡ unknown) (λ type. NeedsMoreOr (lack type b) (PrefixOrError (WireWithin depth) (c ∷ b) o) o)

-- what some bytes mean has them for a payload, after each length field that counts them
abbrev pub IsSoundMeaning : ℕ → Meaning → Type 0
IsSoundMeaning depth mean = (type : AMQPType) (l s : List ℕ) → IsBytes l → length l ≡ byte_len (length_field type)
    → from_be_bytes (length_field type) l ≡ length s → IsBytes s → IfSome (mean type s) (RawWithin depth type (l ++ s))

-- reading what has a meaning
by_meaning_ends : (P : List ℕ → Tree → Type 0) (s b rest : List ℕ) (v : Option Tree) → IfSome v (P b) → s ≡ b ++ rest → PrefixOrError P s (by_meaning v rest)
by_meaning_ends P s b rest None spelled is = tt
by_meaning_ends P s b rest (Some v) spelled is = (b, spelled, is)

-- reading a payload with a length field
framed_ends : (depth : ℕ) (mean : Meaning) (type : AMQPType) (b : List ℕ) → IsSoundMeaning depth mean → IsBytes b → frame_lack (length_field type) b ≡ 0
    → PrefixOrError (RawWithin depth type) b (framed (length_field type) (mean type) b)
framed_ends depth mean type b means bytes whole =
    let w = length_field type in
    let l = take (byte_len w) b in
    let after = drop (byte_len w) b in
    let n = counted w b in
    let s = take n after in
    let enough = payload_extent_of-whole None w b whole in
    let wide : length l ≡ byte_len w = length-take (byte_len w) b ∙ omega (arith, enough) in
    let counts : n ≡ length s = omega (arith, enough, length-take n after, length-drop (byte_len w) b) in
    let is : b ≡ (l ++ s) ++ drop n after =
    sym (take-append-drop (byte_len w) b) ∙ (ap (λ t. l ++ t) (sym (take-append-drop n after)) ∙ sym (append_assoc l s (drop n after))) in
    by_meaning_ends (RawWithin depth type) b (l ++ s) (drop n after) (mean type s)
    (means type l s (bytes_take (byte_len w) b bytes) wide counts (bytes_take n after (bytes_drop (byte_len w) b bytes))) is

-- reading a payload with no byte missing
by_layout_ends : (depth : ℕ) (mean : Meaning) (type : AMQPType) (b : List ℕ) → IsSoundMeaning depth mean → IsBytes b
    → (f : Option Layout) → fixed type ≡ f → lack_of f (length_field type) b ≡ 0 → PrefixOrError (RawWithin depth type) b (by_layout f mean type b)
by_layout_ends depth mean type b means bytes None is whole = framed_ends depth mean type b means bytes whole
by_layout_ends depth mean type b means bytes (Some f) is whole =
    let field = payload_extent_of-whole (Some f) (length_field type) b whole in
    (take f.width b, fixed_within depth type f (take f.width b) is (length-take f.width b ∙ omega arith), sym (take-append-drop f.width b))

-- reading a payload
pub raw_ends : (depth : ℕ) (mean : Meaning) → IsSoundMeaning depth mean → (type : AMQPType) (b : List ℕ) → IsBytes b → RawEnds depth type b (raw_outcome_by mean type b)
raw_ends depth mean means type b bytes = at_lack (lack type b) refl where
  at_lack : (n : ℕ) → lack type b ≡ n → NeedsMoreOr n (PrefixOrError (RawWithin depth type) b (by_lack n mean type b)) (by_lack n mean type b)
  at_lack (suc n) is = refl
  at_lack zero is = by_layout_ends depth mean type b means bytes (fixed type) refl is

-- with its type tag before it, a payload is an encoding
id_before : (depth c : ℕ) (type : AMQPType) (b : List ℕ) (o : Reading) → kind c ≡ Some type → PrefixOrError (RawWithin depth type) b o → PrefixOrError (WireWithin depth) (c ∷ b) o
id_before depth c type b (found v rest) is (raw, p, split) = (c ∷ raw, within_wire depth c type raw v is p, ap (λ t. c ∷ t) split)
id_before depth c type b malformed is ends = tt
id_before depth c type b (more n) is ends = ends
id_before depth c type b unknown is ends = ends

-- reading a value
pub wire_ends : (depth : ℕ) (mean : Meaning) → IsSoundMeaning depth mean → (s : List ℕ) → IsBytes s → WireEnds depth s (outcome_by mean s)
wire_ends depth mean means [] bytes = refl
wire_ends depth mean means (c ∷ b) bytes = at_kind (kind c) refl where
  at_kind : (k : Option AMQPType) → kind c ≡ k
      → MatchOption k (by_kind k mean b ≡ unknown) (λ type. NeedsMoreOr (lack type b) (PrefixOrError (WireWithin depth) (c ∷ b) (by_kind k mean b)) (by_kind k mean b))
  at_kind None is = refl
  at_kind (Some type) is =
      NeedsMoreOr-weaker (lack type b) (PrefixOrError (RawWithin depth type) b (raw_outcome_by mean type b)) (PrefixOrError (WireWithin depth) (c ∷ b) (raw_outcome_by mean type b))
      (raw_outcome_by mean type b) (id_before depth c type b (raw_outcome_by mean type b) is) (raw_ends depth mean means type b bytes.1)

-- reading found what it found
if_found : (P : List ℕ → Tree → Type 0) (s : List ℕ) (o : Reading) → PrefixOrError P s o → IfFound P s o
if_found P s (found v rest) ends = ends
if_found P s (more n) ends = tt
if_found P s unknown ends = tt
if_found P s malformed ends = tt

-- what reading a value found has an encoding
wire_found : (depth : ℕ) (s : List ℕ) (o : Reading) → WireEnds depth s o → IfFound (WireWithin depth) s o
wire_found depth [] o ends = subst (IfFound (WireWithin depth) []) (sym ends) tt
wire_found depth (c ∷ b) o ends = at_kind (kind c) ends where
  at_lack : (n : ℕ) → NeedsMoreOr n (PrefixOrError (WireWithin depth) (c ∷ b) o) o → IfFound (WireWithin depth) (c ∷ b) o
  at_lack (suc n) is = subst (IfFound (WireWithin depth) (c ∷ b)) (sym is) tt
  at_lack zero ends = if_found (WireWithin depth) (c ∷ b) o ends

  at_kind : (k : Option AMQPType) → MatchOption k (o ≡ unknown) (λ type. NeedsMoreOr (lack type b) (PrefixOrError (WireWithin depth) (c ∷ b) o) o) → IfFound (WireWithin depth) (c ∷ b) o
  at_kind None is = subst (IfFound (WireWithin depth) (c ∷ b)) (sym is) tt
  at_kind (Some type) ends = at_lack (lack type b) ends

-- a value's encoding, and a body of the others after it
tree_ends : (depth : ℕ) (s w rest : List ℕ) (v : Tree) (vs : Option Trees) → WireWithin depth w v → s ≡ w ++ rest
    → IfSome vs (BodyWithin depth rest) → IfSome (option_map (tree v) vs) (BodyWithin depth s)
tree_ends depth s w rest v None first is others = tt
tree_ends depth s w rest v (Some vs) p is q =
    subst (λ x. BodyWithin depth x (tree v vs)) (sym is) (within_value depth w rest v vs p q)

-- what the first value is, and what the others are
others_end : (depth : ℕ) (read : List ℕ → Reading) (n : ℕ) (s : List ℕ) (o : Reading) → IsBytes s → IfFound (WireWithin depth) s o
    → ((rest : List ℕ) → IsBytes rest → IfSome (values_by read n rest) (BodyWithin depth rest))
    → IfSome (and_others read n o) (BodyWithin depth s)
others_end depth read n s (found v rest) bytes (w, first, is) others =
    tree_ends depth s w rest v (values_by read n rest) first is (others rest (bytes_after w rest (subst IsBytes is bytes)))
others_end depth read n s (more k) bytes ends others = tt
others_end depth read n s unknown bytes ends others = tt
others_end depth read n s malformed bytes ends others = tt

-- values that are found one after another are a body
values_end : (depth : ℕ) (read : List ℕ → Reading) → ((s : List ℕ) → IsBytes s → IfFound (WireWithin depth) s (read s))
    → (n : ℕ) (s : List ℕ) → IsBytes s → IfSome (values_by read n s) (BodyWithin depth s)
values_end depth read reads n [] bytes = within_no_values depth
values_end depth read reads zero (c ∷ b) bytes = tt
values_end depth read reads (suc n) (c ∷ b) bytes =
    others_end depth read n (c ∷ b) (read (c ∷ b)) bytes (reads (c ∷ b) bytes) (values_end depth read reads n)

-- what is found to be a short string is one
is_short-holds : (s : List ℕ) → is_short s ≡ true → IsShort s
is_short-holds s is =
    let both = and_parts (nat_le (length s) 255) (is_utf8 s) is in
    record { few = leb-true (length s) 255 both.0; utf8 = IsUtf8-from_is_utf8 s both.1 }

-- pairs, put onto es
abbrev PairsOnto : ℕ → Entries → List ℕ → Entries → Type 0
PairsOnto depth es s fs = (ps : Entries) × PairsWithin depth s ps × (fs ≡ insert_all es ps)

-- a key and a value's encoding, and the other pairs after them
pair_ends : (depth : ℕ) (es : Entries) (k t w rest : List ℕ) (v : Tree) (fs : Option Entries) → IsShort k → WireWithin depth w v → t ≡ w ++ rest
    → IfSome fs (PairsOnto depth (insert k v es) rest) → IfSome fs (PairsOnto depth es (short_field k ++ t))
pair_ends depth es k t w rest v None key first is others = tt
pair_ends depth es k t w rest v (Some fs) key p is (ps, q, onto_es) =
    subst (λ x. PairsOnto depth es (short_field k ++ x) fs) (sym is) (entry k v ps, within_pair depth k w rest v ps key p q, onto_es)

-- what is after the first key, and what the other pairs are
pairs_after : (depth : ℕ) (read : List ℕ → Reading) (n : ℕ) (es : Entries) (k t : List ℕ) (o : Reading) → IsShort k → IsBytes t → IfFound (WireWithin depth) t o
    → ((fs : Entries) (rest : List ℕ) → IsBytes rest → IfSome (pairs_onto read n fs rest) (PairsOnto depth fs rest))
    → IfSome (and_pairs read n es k o) (PairsOnto depth es (short_field k ++ t))
pairs_after depth read n es k t (found v rest) key bytes (w, first, is) others =
    pair_ends depth es k t w rest v (pairs_onto read n (insert k v es) rest) key first is (others (insert k v es) rest (bytes_after w rest (subst IsBytes is bytes)))
pairs_after depth read n es k t (more m) key bytes ends others = tt
pairs_after depth read n es k t unknown key bytes ends others = tt
pairs_after depth read n es k t malformed key bytes ends others = tt

-- what the first key is, and what the pairs are
key_ends : (depth : ℕ) (read : List ℕ → Reading) → ((s : List ℕ) → IsBytes s → IfFound (WireWithin depth) s (read s))
    → (n : ℕ) (es : Entries) (c : ℕ) (s : List ℕ) → IsBytes s
    → ((fs : Entries) (rest : List ℕ) → IsBytes rest → IfSome (pairs_onto read n fs rest) (PairsOnto depth fs rest))
    → IfSome (pairs_onto read (suc n) es (c ∷ s)) (PairsOnto depth es (c ∷ s))
key_ends depth read reads n es c s bytes others = at_test (is_key c s) refl where
  at_test : (t : Bool) → is_key c s ≡ t → IfSome (and_key t (and_pairs read n es (take c s) (read (drop c s)))) (PairsOnto depth es (c ∷ s))
  at_test false is = tt
  at_test true is =
      let both = and_parts (nat_le c (length s)) (is_short (take c s)) is in
      let enough = leb-true c (length s) both.0 in
      let k = take c s in
      let counts : length k ≡ c = length-take c s ∙ omega arith in
      let whole : short_field k ++ drop c s ≡ c ∷ s = λ i. counts i ∷ take-append-drop c s i in
      subst (λ x. IfSome (and_pairs read n es k (read (drop c s))) (PairsOnto depth es x)) whole
      (pairs_after depth read n es k (drop c s) (read (drop c s)) (is_short-holds k both.1) (bytes_drop c s bytes) (reads (drop c s) (bytes_drop c s bytes)) others)

-- pairs that are put one after another are pairs
pairs_end : (depth : ℕ) (read : List ℕ → Reading) → ((s : List ℕ) → IsBytes s → IfFound (WireWithin depth) s (read s))
    → (n : ℕ) (es : Entries) (s : List ℕ) → IsBytes s → IfSome (pairs_onto read n es s) (PairsOnto depth es s)
pairs_end depth read reads n es [] bytes = (no_entries, within_no_pairs depth, refl)
pairs_end depth read reads zero es (c ∷ s) bytes = tt
pairs_end depth read reads (suc n) es (c ∷ s) bytes = key_ends depth read reads n es c s bytes.1 (pairs_end depth read reads n)

-- what holds of bytes after their length in one byte holds after each field that counts them
small_end : (P : List ℕ → Type 0) (l s : List ℕ) → length l ≡ 1 → from_be_bytes w8 l ≡ length s → P (short_field s) → P (l ++ s)
small_end P [] s one counts here = absurd (omega arith)
small_end P (c ∷ []) s one counts here = subst (λ n. P (n ∷ s)) (sym counts) here
small_end P (c ∷ d ∷ l) s one counts here = absurd (omega arith)

-- so it is of a length in four bytes, which fits its field
large_end : (P : List ℕ → Type 0) (l s : List ℕ) → IsBytes l → length l ≡ 4 → from_be_bytes w32 l ≡ length s → (length s < 2 ^ 32 → P (long_field s)) → P (l ++ s)
large_end P l s bytes four counts here =
    let undone : to_be_bytes w32 (length s) ≡ l = be_bytes_4 l (length s) four (byte_at l bytes) (sym counts) in
    let at = byte_at l bytes in
    let fits : length s < 2 ^ 32 = omega (arith, at 0, at 1, at 2, at 3, counts) in
    subst (λ x. P (x ++ s)) undone (here fits)

-- bytes that are found to be one are a short string
short_end : (depth : ℕ) (l s : List ℕ) → length l ≡ 1 → from_be_bytes w8 l ≡ length s → (t : Bool) → is_short s ≡ t
    → IfSome (cond t (Some (short s)) None) (RawWithin depth amqp.ShortString (l ++ s))
short_end depth l s one counts false is = tt
short_end depth l s one counts true is =
    small_end (λ b. RawWithin depth amqp.ShortString b (short s)) l s one counts (within_plain depth amqp.ShortString (short_field s) (short s) (λ e. cc) (λ e. cc) (raw_short s (is_short-holds s is)))

-- a body after its length is an array
array_end : (depth : ℕ) (l s : List ℕ) → IsBytes l → length l ≡ 4 → from_be_bytes w32 l ≡ length s → (vs : Option Trees)
    → IfSome vs (BodyWithin depth s) → IfSome (option_map array vs) (RawWithin (suc depth) amqp.FieldArray (l ++ s))
array_end depth l s bytes four counts None ends = tt
array_end depth l s bytes four counts (Some vs) p =
    large_end (λ b. RawWithin (suc depth) amqp.FieldArray b (array vs)) l s bytes four counts (λ fits. within_array depth s vs fits p)

-- or a table
table_end : (depth : ℕ) (l s : List ℕ) → IsBytes l → length l ≡ 4 → from_be_bytes w32 l ≡ length s → (es : Option Entries)
    → IfSome es (PairsOnto depth no_entries s) → IfSome (option_map table es) (RawWithin (suc depth) amqp.FieldTable (l ++ s))
table_end depth l s bytes four counts None ends = tt
table_end depth l s bytes four counts (Some es) (ps, p, is) =
    large_end (λ b. RawWithin (suc depth) amqp.FieldTable b (table es)) l s bytes four counts
    (λ fits. within_table depth s ps es fits p (subst (Mean ps) (sym is) (put_mean ps)))

-- what bytes mean, they encode
pub means_spelled : (depth : ℕ) → IsSoundMeaning depth (meaning depth)
means_spelled depth amqp.ShortString l s field one counts bytes = short_end depth l s one counts (is_short s) refl
means_spelled depth amqp.LongString l s field four counts bytes =
    large_end (λ b. RawWithin depth amqp.LongString b (long s)) l s field four counts (λ fits. within_plain depth amqp.LongString (long_field s) (long s) (λ e. cc) (λ e. cc) (raw_long s fits))
means_spelled depth amqp.ByteArray l s field four counts bytes =
    large_end (λ b. RawWithin depth amqp.ByteArray b (octets s)) l s field four counts (λ fits. within_plain depth amqp.ByteArray (long_field s) (octets s) (λ e. cc) (λ e. cc) (raw_octets s fits))
means_spelled (suc depth) amqp.FieldArray l s field four counts bytes =
    array_end depth l s field four counts (values_by (outcome_by (meaning depth)) (length s) s)
    (values_end depth (outcome_by (meaning depth)) (λ b bytes. wire_found depth b (outcome_by (meaning depth) b) (wire_ends depth (meaning depth) (means_spelled depth) b bytes)) (length s) s bytes)
means_spelled (suc depth) amqp.FieldTable l s field four counts bytes =
    table_end depth l s field four counts (pairs_onto (outcome_by (meaning depth)) (length s) no_entries s)
    (pairs_end depth (outcome_by (meaning depth)) (λ b bytes. wire_found depth b (outcome_by (meaning depth) b) (wire_ends depth (meaning depth) (means_spelled depth) b bytes)) (length s) no_entries s bytes)
means_spelled _ _ l s field wide counts bytes = tt
