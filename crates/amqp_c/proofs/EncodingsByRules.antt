-- Lemmas on `IsEncodingBy`, encodings by rules: bodies and one more entry after them, values that
-- aren't containers, and what is read.
use Rattle.std.proofs.Common.{◌≡◌, ◌<◌, ◌≤◌, ◌-◌, ◌^◌, ℕ, zero, suc, Bool, true, false, Option, Some, None, List, [], ◌∷◌, ◌++◌, length, take, drop, refl, sym, ap, ◌∙◌, subst, arith, inl, inr, length-append, length-drop, if◌then◌else◌, ◌==◌, ◌+◌, append-nil}
use Rattle.std.specs.Prelude.{option_map}
use Rattle.std.specs.Int.{Width, w32, byte_len, from_be_bytes}
use Rattle.std.proofs.lemmas.Bool.{le-ltb}
use Rattle.std.proofs.lemmas.List.{take_at, drop_at, take_all, take-append-le, drop-append-le, length-take-le, take-append-drop}
use Rattle.std.proofs.lemmas.Nat.{from_be_bytes-to_be_bytes_4}
use Rattle.amqp_value_core.specs.declared.types.amqp_type.AMQPType.{AMQPType}
use Rattle.amqp_value_core.specs.declared.types.amqp_type.AMQPType.TheVariants as amqp
use Rattle.amqp_value_core.specs.Ids.{kind}
use Rattle.amqp_value_core.specs.Layouts.{Layout, fixed}
use Rattle.amqp_value_core.specs.Outcomes.{length_field, counted}
use Rattle.amqp_value_core.specs.Grammar.{short_field, long_field, Wire, wire, Raw, raw_fixed, raw_short, raw_long, raw_octets, raw_array, raw_table}
use Rattle.amqp_value_core.specs.Values.{Tree, array, table}
use Rattle.amq_protocol_types.specs.parsing.Headers.{extent, extent_at, extent_of, raw_extent}
use Rattle.amq_protocol_types.proofs.ParsingLaws.{wire_extent}
use Rattle.amqp_in_place.specs.declared.problems.Rules.{Rules}
use Rattle.amqp_in_place.specs.declared.problems.Rules.TheVariants as by_rules
use Rattle.amqp_in_place.specs.Problems.{Search, known, allow_key, further, in_entries, in_payload, in_value, in_pair, pair_len, inside, value_problem, pair_problem}
use Rattle.amqp_in_place.proofs.FirstProblems.{counted_there}
use Rattle.amqp_in_place.proofs.AnyKeys.{no_further, neither, payload_there, payload_right, value_there, value_right, pair_there, pair_right, no_fixed_problem, as_weak, inside_weaker}
use Rattle.amqp_in_place.specs.declared.problems.Rules.TheVariants.{AnyKeys}
use Rattle.amqp_c.specs.Items.{IsEncodingBy, AreValuesBy, ArePairsBy, IsBodyBy}

-- ---- searches that find nothing

-- what is after an entry without a problem doesn't matter: it has none with more bytes after it, and as many
-- bytes
abbrev IsLocal : Search → (List ℕ → ℕ) → Type 0
IsLocal first len = (s t : List ℕ) → first s ≡ None → (first (s ++ t) ≡ None) × (len (s ++ t) ≡ len s) × (0 < len s) × (len s ≤ length s)

module _ (first : Search) (len : List ℕ → ℕ) where
  -- nothing is after what is left of an entry that reaches to the end
  all_passed : (s : List ℕ) (n : ℕ) → length s ≤ n → in_entries first len n s ≡ None
  all_passed [] n most = refl
  all_passed (c ∷ s) zero most = absurd (omega (arith, most))
  all_passed (c ∷ s) (suc n) most = ap (option_map (further 1)) (all_passed s n (omega (arith, most)))

  -- one entry that is all of the bytes
  one_entry : (s : List ℕ) → first s ≡ None → len s ≡ length s → in_entries first len 0 s ≡ None
  one_entry [] none whole = refl
  one_entry (c ∷ s) none whole =
      rw none (ap (option_map (further 1)) (all_passed s (len (c ∷ s) - 1) (omega (arith, whole))))

  -- entries, and others after them
  entries_more : IsLocal first len → (b x : List ℕ) (n : ℕ) → n ≤ length b → in_entries first len n b ≡ None → in_entries first len 0 x ≡ None
      → in_entries first len n (b ++ x) ≡ None
  entries_more local [] x zero fits none all = all
  entries_more local [] x (suc n) fits none all = absurd (omega (arith, fits))
  entries_more local (c ∷ s) x zero fits none all =
      let here = neither (first (c ∷ s)) (option_map (further 1) (in_entries first len (len (c ∷ s) - 1) s)) none in
      let far = local (c ∷ s) x here.0 in
      let left = no_further 1 (in_entries first len (len (c ∷ s) - 1) s) here.1 in
      rw (far.0, far.1) (ap (option_map (further 1)) (entries_more local s x (len (c ∷ s) - 1) (omega (arith, far.3)) left all))
  entries_more local (c ∷ s) x (suc n) fits none all =
      ap (option_map (further 1)) (entries_more local s x n (omega (arith, fits)) (no_further 1 (in_entries first len n s) none) all)

-- ---- values

-- a type tag that the rules know is one
pub known_kind : (rules : Rules) (c : ℕ) (type : AMQPType) → known rules c ≡ Some type → kind c ≡ Some type
known_kind by_rules.Reading c type is = is
known_kind by_rules.AnyKeys c type is = is
known_kind by_rules.RabbitMq c type is = by (c == 85) is
  where
    by : (b : Bool) → (if b then None else kind c) ≡ Some type → kind c ≡ Some type
    by true is = absurd cc
    by false is = is

-- more bytes after a payload that is all there don't change how many it has
extent_more : (o : Option Layout) (w : Width) (b t : List ℕ) → extent_of o w b ≤ length b → extent_of o w (b ++ t) ≡ extent_of o w b
extent_more (Some f) w b t there = refl
extent_more None w b t there =
    let long : byte_len w ≤ length b = omega (arith, counted_there w b, there) in
    let more : byte_len w ≤ length (b ++ t) = omega (arith, long, length-append b t) in
    rw (le-ltb (length b) (byte_len w) long, le-ltb (length (b ++ t)) (byte_len w) more, take-append-le (byte_len w) b t long) refl

-- a payload without a problem has none with more bytes after it
payload_more : (within : AMQPType → Search) (type : AMQPType) (b t : List ℕ) → in_payload within type b ≡ None
    → (in_payload within type (b ++ t) ≡ None) × (raw_extent type (b ++ t) ≡ raw_extent type b) × (raw_extent type b ≤ length b)
payload_more within type b t none =
    let is = payload_there within type b none in
    let same : raw_extent type (b ++ t) ≡ raw_extent type b = extent_more (fixed type) (length_field type) b t is.0 in
    let bytes : take (raw_extent type (b ++ t)) (b ++ t) ≡ take (raw_extent type b) b = ap (λ (n : ℕ). take n (b ++ t)) same ∙ take-append-le (raw_extent type b) b t is.0 in
    (payload_right within type (b ++ t) (omega (arith, same, is.0, length-append b t)) (ap (within type) bytes ∙ is.1), same, is.0)

-- a value has as many bytes as its payload, and its type tag
pub value_size : (rules : Rules) (c : ℕ) (b : List ℕ) (type : AMQPType) → known rules c ≡ Some type → extent (c ∷ b) ≡ suc (raw_extent type b)
value_size rules c b type is = ap (λ (o : Option AMQPType). extent_at o b) (known_kind rules c type is)

value_local : (rules : Rules) (within : AMQPType → Search) → IsLocal (in_value rules within) extent
value_local rules within [] t none = absurd cc
value_local rules within (c ∷ b) t none =
    let (type, is, right) = value_there rules within c b none in
    let more = payload_more within type b t right in
    let here = value_size rules c b type is in
    let far = value_size rules c (b ++ t) type is in
    (value_right rules within c (b ++ t) type is more.0, omega (arith, here, far, more.1), omega (arith, here), omega (arith, here, more.2))

-- values, and others after them
pub values_join : (rules : Rules) (depth : ℕ) (b x : List ℕ) → AreValuesBy rules depth b → AreValuesBy rules depth x → AreValuesBy rules depth (b ++ x)
values_join rules depth b x all others =
    entries_more (value_problem rules depth) extent (value_local rules (inside rules depth)) b x 0 (omega arith) all others

-- an encoding is one value
pub one_value : (rules : Rules) (depth : ℕ) (w : List ℕ) → IsEncodingBy rules depth w → AreValuesBy rules depth w
one_value rules depth w is = one_entry (value_problem rules depth) extent w is.right is.whole

-- ---- pairs

pair_local : (rules : Rules) (value : Search) → IsLocal value extent → IsLocal (in_pair rules value) pair_len
pair_local rules value local [] t none = absurd cc
pair_local rules value local (k ∷ s) t none =
    let is = pair_there rules value k s none in
    let far = local (drop k s) t is.2 in
    let key : take k (s ++ t) ≡ take k s = take-append-le k s t is.0 in
    let after : drop k (s ++ t) ≡ drop k s ++ t = drop-append-le k s t is.0 in
    let size : extent (drop k (s ++ t)) ≡ extent (drop k s) = ap extent after ∙ far.1 in (
      pair_right rules value k (s ++ t) (omega (arith, is.0, length-append s t)) (ap (allow_key rules) key ∙ is.1) (ap value after ∙ far.0),
      omega (arith, size),
      omega arith,
      omega (arith, far.3, length-drop k s, is.0),
    )

-- pairs, and others after them
pub pairs_join : (rules : Rules) (depth : ℕ) (b x : List ℕ) → ArePairsBy rules depth b → ArePairsBy rules depth x → ArePairsBy rules depth (b ++ x)
pairs_join rules depth b x all others =
    entries_more (pair_problem rules depth) pair_len (pair_local rules (value_problem rules depth) (value_local rules (inside rules depth))) b x 0 (omega arith) all others

-- a key and an encoding are one pair
pub one_pair : (rules : Rules) (depth : ℕ) (k w : List ℕ) → allow_key rules k ≡ true → IsEncodingBy rules depth w → ArePairsBy rules depth (short_field k ++ w)
one_pair rules depth k w allowed is =
    let value = value_problem rules depth in
    let n = length k in
    let key : take n (k ++ w) ≡ k = take_at k w n refl in
    let after : drop n (k ++ w) ≡ w = drop_at k w n refl in
    let right : in_pair rules value (n ∷ (k ++ w)) ≡ None =
    pair_right rules value n (k ++ w) (omega (arith, length-append k w)) (ap (allow_key rules) key ∙ allowed) (ap value after ∙ is.right) in
    let whole : pair_len (n ∷ (k ++ w)) ≡ suc (length (k ++ w)) = omega (arith, ap extent after, is.whole, length-append k w) in
    one_entry (in_pair rules value) pair_len (short_field k ++ w) right whole

-- ---- containers

known_array : (rules : Rules) → known rules 65 ≡ Some amqp.FieldArray
known_array by_rules.Reading = refl
known_array by_rules.AnyKeys = refl
known_array by_rules.RabbitMq = refl

known_table : (rules : Rules) → known rules 70 ≡ Some amqp.FieldTable
known_table by_rules.Reading = refl
known_table by_rules.AnyKeys = refl
known_table by_rules.RabbitMq = refl

-- bytes after their length are a payload of as many bytes
field_whole : (b : List ℕ) → length b < 2 ^ 32 → extent_of None w32 (long_field b) ≡ length (long_field b)
field_whole b fits =
    let test = le-ltb (length (long_field b)) 4 (omega arith) in
    rw test (omega (arith, from_be_bytes-to_be_bytes_4 (length b) fits))

-- an encoding by its type and its payload
pub encoding_is : (rules : Rules) (depth c : ℕ) (type : AMQPType) (b : List ℕ) → known rules c ≡ Some type → raw_extent type b ≡ length b → inside rules depth type b ≡ None
    → IsEncodingBy rules depth (c ∷ b)
encoding_is rules depth c type b is size none = record {
  right = value_right rules (inside rules depth) c b type is
      (payload_right (inside rules depth) type b (omega (arith, size)) (ap (inside rules depth type) (ap (λ (n : ℕ). take n b) size ∙ take_all (length b) b (omega arith)) ∙ none));
  whole = value_size rules c b type is ∙ ap suc size;
}

-- the encoding of a container whose body is one by the rules
pub closed_by : (rules : Rules) (depth tag : ℕ) (b : List ℕ) → length b < 2 ^ 32 → IsBodyBy rules depth tag b → IsEncodingBy rules (suc depth) (tag ∷ long_field b)
closed_by rules depth tag b fits (inl (is, all)) =
    subst (λ (t : ℕ). IsEncodingBy rules (suc depth) (t ∷ long_field b)) (sym is)
    (encoding_is rules (suc depth) 65 amqp.FieldArray (long_field b) (known_array rules) (field_whole b fits) (ap (option_map (further 5)) all))
closed_by rules depth tag b fits (inr (is, all)) =
    subst (λ (t : ℕ). IsEncodingBy rules (suc depth) (t ∷ long_field b)) (sym is)
    (encoding_is rules (suc depth) 70 amqp.FieldTable (long_field b) (known_table rules) (field_whole b fits) (ap (option_map (further 5)) all))

-- ---- values by the grammar

-- a payload has as many bytes as it counts
payload_size : (c : ℕ) (type : AMQPType) (b : List ℕ) (v : Tree) → kind c ≡ Some type → Raw type b v → raw_extent type b ≡ length b
payload_size c type b v is raw =
    let whole : extent (c ∷ b) ≡ suc (length b) = ap extent (sym (append-nil (c ∷ b))) ∙ wire_extent (c ∷ b) [] v (wire c type b v is raw) in
    omega (arith, whole, ap (λ (o : Option AMQPType). extent_at o b) is)

-- a value that is no container
abbrev pub IsPlain : Tree → Type 0
IsPlain (array vs) = ⊥
IsPlain (table es) = ⊥
IsPlain v = Unit {0}

plain_right : (d : ℕ) (type : AMQPType) (b : List ℕ) (v : Tree) → IsPlain v → Raw type b v → inside AnyKeys d type b ≡ None
plain_right d _ _ _ plain (raw_fixed type f b row wide) = no_fixed_problem AnyKeys d type f b refl row
plain_right d _ _ _ plain (raw_short s is) = refl
plain_right d _ _ _ plain (raw_long s fits) = refl
plain_right d _ _ _ plain (raw_octets s fits) = refl
plain_right d _ _ _ plain (raw_array body vs fits all) = absurd plain
plain_right d _ _ _ plain (raw_table body ps es fits all mean) = absurd plain

pub plain_reads : (w : List ℕ) (v : Tree) → Wire w v → IsPlain v → (rules : Rules) (depth : ℕ) → rules ≡ AnyKeys → IsEncodingBy rules depth w
plain_reads _ _ (wire c type b v is raw) plain rules depth any =
    subst (λ (r : Rules). IsEncodingBy r depth (c ∷ b)) (sym any) (encoding_is AnyKeys depth c type b is (payload_size c type b v is raw) (plain_right depth type b v plain raw))

-- ---- what is read by rules

-- the bytes of a payload alone have as many as it
extent_less : (o : Option Layout) (w : Width) (b : List ℕ) (n : ℕ) → n ≡ extent_of o w b → n ≤ length b → extent_of o w (take n b) ≡ n
extent_less (Some f) w b n is there = sym is
extent_less None w b n is there =
    let least : byte_len w ≤ n = omega (arith, is, counted_there w b) in
    let size : length (take n b) ≡ n = length-take-le n b there in
    let same : counted w (take n b) ≡ counted w b =
    ap (from_be_bytes w) (sym (take-append-le (byte_len w) (take n b) (drop n b) (omega (arith, least, size))) ∙ ap (take (byte_len w)) (take-append-drop n b)) in
    let all : n ≡ byte_len w + counted w b = is ∙ rw (le-ltb (length b) (byte_len w) (omega (arith, least, there))) refl in
    rw (le-ltb (length (take n b)) (byte_len w) (omega (arith, least, size))) (omega (arith, all, same))

-- the bytes that the header of what has no problem counts are an encoding, also if containers may nest deeper
pub start_reads : (rules : Rules) (d depth : ℕ) (s : List ℕ) → d ≤ depth → value_problem rules d s ≡ None → IsEncodingBy rules depth (take (extent s) s)
start_reads rules d depth [] deep none = absurd cc
start_reads rules d depth (c ∷ b) deep none =
    let (type, is, right) = value_there rules (inside rules d) c b none in
    let there = payload_there (inside rules d) type b right in
    let n = raw_extent type b in
    let size : raw_extent type (take n b) ≡ length (take n b) = extent_less (fixed type) (length_field type) b n refl there.0 ∙ sym (length-take-le n b there.0) in
    let none_in = inside_weaker rules rules (as_weak rules) d depth deep type (take n b) there.1 in
    subst (IsEncodingBy rules depth) (ap (λ (m : ℕ). take m (c ∷ b)) (sym (value_size rules c b type is))) (encoding_is rules depth c type (take n b) is size none_in)

-- all of them are there
pub value_whole : (rules : Rules) (d : ℕ) (s : List ℕ) → value_problem rules d s ≡ None → (0 < extent s) × (extent s ≤ length s)
value_whole rules d [] none = absurd cc
value_whole rules d (c ∷ b) none =
    let (type, is, right) = value_there rules (inside rules d) c b none in
    let there = payload_there (inside rules d) type b right in
    let size = value_size rules c b type is in
    (omega (arith, size), omega (arith, size, there.0))
