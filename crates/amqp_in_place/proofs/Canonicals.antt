-- `canonical_len` and `is_canonical`: bytes pass the checks of src/canonical.rt exactly if they
-- start with a canonical encoding, and `is_canonical` compares its length (`known_by_len`).
use Rattle.std.proofs.Common.{◌≡◌, ◌<◌, ◌≤◌, ◌+◌, ℕ, suc, Bool, true, false, cond, nat_eq, eqb, List, [], ◌∷◌, ◌++◌, length, drop, get_or, Fits, w8, Option, Some, None, refl, sym, ap, ◌∙◌, subst, arith, length-append, eq-eqb}
use Rattle.std.specs.Map.{lookup}
use Rattle.std.specs.List.{AllByRecursion}
use Rattle.std.specs.Option.{IfSome, option_eq}
use Rattle.std.specs.Borrow.{Bor}
use Rattle.std.specs.Str.{IsUtf8}
use Rattle.std.proofs.lemmas.Bool.{eqb-true, false≢true}
use Rattle.std.proofs.lemmas.List.{nil_from_length, append-nil}
use Rattle.std.proofs.lemmas.Option.{same_Some}
use Rattle.amqp_value_core.specs.Ids.{letters, kind}
use Rattle.amqp_value_core.specs.Bytes.{IsShort, IsBytes, slice_bytes}
use Rattle.amqp_value_core.specs.declared.types.amqp_type.AMQPType.{AMQPType}
use Rattle.amqp_value_core.specs.declared.types.amqp_type.AMQPType.TheVariants as amqp
use Rattle.amqp_value_core.proofs.Ids.{row_holds, kind_read}
use Rattle.amqp_value_core.specs.Values.{Tree, short, array, table, no_trees, tree, no_entries, entry, ComesBefore, depth}
use Rattle.amqp_value_core.specs.Canonical.{CanonBody, CanonPairs, IsStrict, Canon, canon, CanonRaw, canon_fixed, canon_long, canon_octets, canon_array, canon_table, canon_no_values, canon_value, canon_no_pairs, canon_pair}
use Rattle.amqp_value_core.specs.Layouts.{Layout, fixed}
use Rattle.amqp_value_core.specs.Grammar.{short_field, long_field, Wire, Raw, raw_fixed, raw_short, raw_long, raw_octets, raw_array, raw_table}
use Rattle.amqp_value_core.specs.Nesting.{WireWithin, OutcomeWithin}
use Rattle.amqp_value_core.specs.Outcomes.{found, more, unknown, Outcome, RawOutcome}
use Rattle.amqp_value_core.proofs.Bytes.{bytes_before}
use Rattle.amqp_value_core.proofs.GrammarLaws.{wire_of, one_large, one_reading, one_raw_reading, one_raw_outcome, raw_found, wire_found, wire_found_within, prefix_within, depth_within, text_within, text_is_canon, what_is_read, read_is_value, canon_is_wire, canon_fits, canon_is_text, short_bytes, one_outcome}
use Rattle.amq_protocol_types.specs.declared.parsing.within.Limits.{Limits}
use Rattle.amq_protocol_types.specs.parsing.Headers.{extent, wanted}
use Rattle.amq_protocol_types.specs.parsing.Limits.{Within, IsHeader}
use Rattle.amq_protocol_types.specs.declared.parsing.header.Header.{Header}
use Rattle.amq_protocol_types.specs.declared.parsing.header.Header.TheVariants as header
use Rattle.amq_protocol_types.proofs.ParsingLaws.{more_wanted}
use Rattle.amq_protocol_types.specs.parsing.PayloadResults.{IsType}
use Rattle.amq_protocol_types.specs.parsing.Refusals.{Refusal}
use Rattle.amq_protocol_types.specs.parsing.ParseResults.{IsRefusal}
use Rattle.amqp_in_place.specs.declared.head.Head.{Head}
use Rattle.amqp_in_place.specs.declared.head.Head.TheVariants as head
use Rattle.amqp_in_place.specs.Refs.{plain_tree}
use Rattle.amqp_in_place.specs.Heads.{IsPlainType, RawHeadIs, IsHead, IsKeyFrame}
use Rattle.amqp_in_place.specs.Canonicals.{IsCanonicalLen, IsCanonicalWithin, IsReadAsWritten, CanonPrefix, CanonValues, IsAbove, AreAbove, CanonEntries, HasCanonicalBody, IsFirstSpelling}
use Rattle.amqp_in_place.specs.Walks.{HasEncodingAtStart}
use Rattle.amqp_in_place.proofs.Stepping.{refusal_of_none}

-- ---- type tags and booleans

-- only `t` denotes a boolean
abbrev is_boolean : AMQPType → Bool
is_boolean amqp.Boolean = true
is_boolean _ = false

abbrev other_letters : List (ℕ × AMQPType)
other_letters = drop 1 letters

rows_no_boolean : AllByRecursion (λ (r : ℕ × AMQPType). is_boolean r.1 ≡ false) other_letters
rows_no_boolean = (refl, (refl, (refl, (refl, (refl, (refl, (refl, (refl, (refl, (refl, (refl, (refl, (refl, (refl, (refl, (refl, (refl, (refl, tt))))))))))))))))))

boolean_letter : (c : ℕ) → kind c ≡ Some amqp.Boolean → c ≡ 116
boolean_letter c k = by (nat_eq c 116) refl (row_holds (λ type. is_boolean type ≡ false) (nat_eq c) other_letters rows_no_boolean) k
  where
    by : (t : Bool) → nat_eq c 116 ≡ t → IfSome (lookup (nat_eq c) other_letters) (λ type. is_boolean type ≡ false)
        → cond t (Some amqp.Boolean) (lookup (nat_eq c) other_letters) ≡ Some amqp.Boolean → c ≡ 116
    by true is none held = eqb-true c 116 is
    by false is none held = absurd (let no : true ≡ false = subst (λ (o : Option AMQPType). IfSome o (λ type. is_boolean type ≡ false)) held none in cc)

-- no type tag denotes a short string
pub no_short_letter : (c : ℕ) → kind c ≡ Some amqp.ShortString → ⊥
no_short_letter c k = let r = kind_read c amqp.ShortString k in absurd cc

-- a boolean's byte is 0 or 1, whatever is after it
strict_prefix : (b rest : List ℕ) → IsStrict amqp.Boolean (b ++ rest) → IsStrict amqp.Boolean b
strict_prefix [] rest x = tt
strict_prefix (c ∷ b) rest x = x

strict_by : (type : AMQPType) (b : List ℕ) → (type ≡ amqp.Boolean → IsStrict amqp.Boolean b) → IsStrict type b
strict_by amqp.Boolean b f = f refl
strict_by _ b f = tt

strict_append : (b rest : List ℕ) → length b ≡ 1 → IsStrict amqp.Boolean b → IsStrict amqp.Boolean (b ++ rest)
strict_append [] rest one x = absurd (omega arith)
strict_append (c ∷ b) rest one x = x

-- in the canonical payload of a boolean it is
strict_payload : (type : AMQPType) (b : List ℕ) (v : Tree) → CanonRaw type b v → type ≡ amqp.Boolean → (rest : List ℕ) → IsStrict amqp.Boolean (b ++ rest)
strict_payload _ _ _ (canon_fixed type f b row len strict) e rest =
    let wide : f.width ≡ 1 = subst (λ (o : Option Layout). IfSome o (λ g. g.width ≡ 1)) (ap fixed (sym e) ∙ row) refl in
    strict_append b rest (len ∙ wide) (subst (λ (t : AMQPType). IsStrict t b) e strict)
strict_payload _ _ _ (canon_long s fits) e rest = absurd cc
strict_payload _ _ _ (canon_octets s fits) e rest = absurd cc
strict_payload _ _ _ (canon_array body vs fits all) e rest = absurd cc
strict_payload _ _ _ (canon_table body es fits all) e rest = absurd cc

-- a canonical encoding begins with no alternate tag
canon_spelling : (w rest : List ℕ) (v : Tree) → Canon w v → IsFirstSpelling (w ++ rest)
canon_spelling _ rest _ (canon c type b v k not_U not_L p) =
    (not_U, not_L, λ e. strict_payload type b v p (same_Some type amqp.Boolean (sym k ∙ ap kind e)) rest)

pub spelling_at_start : (d : ℕ) (s rest : List ℕ) → CanonPrefix d s rest → IsFirstSpelling s
spelling_at_start d s rest (w, v, x, deep, e) = subst IsFirstSpelling (sym e) (canon_spelling w rest v x)

-- ---- values that are no containers

-- a payload of a type of no container is canonical if a boolean's byte is 0 or 1
plain_payload : (type : AMQPType) (b : List ℕ) (v : Tree) → Raw type b v → IsPlainType type → (type ≡ amqp.ShortString → ⊥) → IsStrict type b → CanonRaw type b v × (depth v ≡ 0)
plain_payload _ _ _ (raw_fixed type f b row len) plain none strict = (canon_fixed type f b row len strict, refl)
plain_payload _ _ _ (raw_short s is) plain none strict = absurd (none refl)
plain_payload _ _ _ (raw_long s fits) plain none strict = (canon_long s fits, refl)
plain_payload _ _ _ (raw_octets s fits) plain none strict = (canon_octets s fits, refl)
plain_payload _ _ _ (raw_array body vs fits all) plain none strict = absurd plain
plain_payload _ _ _ (raw_table body ps es fits all mean) plain none strict = absurd plain

-- ---- containers

-- the body in a canonical payload
canon_body : (type : AMQPType) (b : List ℕ) (v : Tree) → CanonRaw type b v → (h : Head) (mid rest left : List ℕ) → RawHeadIs type mid h rest → mid ≡ b ++ left → (d : ℕ) → depth v ≤ d → HasCanonicalBody d h
canon_body _ _ _ p (head.Plain r) mid rest left q e d deep = tt
canon_body _ _ _ (canon_array a vs fits all) (head.FieldArray i) mid rest left q e d deep =
    (omega (arith, deep), (vs, subst (λ (t : List ℕ). CanonBody t vs) (one_large a (slice_bytes i) left rest fits q.1.fits (sym e ∙ q.1.framed)).0 all, omega (arith, deep)))
canon_body _ _ _ (canon_table a es fits all) (head.FieldTable i) mid rest left q e d deep =
    (omega (arith, deep), (es, subst (λ (t : List ℕ). CanonPairs t es) (one_large a (slice_bytes i) left rest fits q.1.fits (sym e ∙ q.1.framed)).0 all, tt, omega (arith, deep)))
canon_body _ _ _ (canon_fixed type f b row len strict) (head.FieldArray i) mid rest left q e d deep = absurd (let none = ap fixed (sym q.0) ∙ row in cc)
canon_body _ _ _ (canon_fixed type f b row len strict) (head.FieldTable i) mid rest left q e d deep = absurd (let none = ap fixed (sym q.0) ∙ row in cc)
canon_body _ _ _ (canon_long s fits) (head.FieldArray i) mid rest left q e d deep = absurd (let t = q.0 in cc)
canon_body _ _ _ (canon_long s fits) (head.FieldTable i) mid rest left q e d deep = absurd (let t = q.0 in cc)
canon_body _ _ _ (canon_octets s fits) (head.FieldArray i) mid rest left q e d deep = absurd (let t = q.0 in cc)
canon_body _ _ _ (canon_octets s fits) (head.FieldTable i) mid rest left q e d deep = absurd (let t = q.0 in cc)
canon_body _ _ _ (canon_array a vs fits all) (head.FieldTable i) mid rest left q e d deep = absurd (let t = q.0 in cc)
canon_body _ _ _ (canon_table a es fits all) (head.FieldArray i) mid rest left q e d deep = absurd (let t = q.0 in cc)

-- the type tag that is first, and the canonical payload after it
record CanonTyped (type : AMQPType) (mid left : List ℕ) (v : Tree) : Type 0 where
  pub payload : List ℕ
  pub is_canon : CanonRaw type payload v
  pub prefix : mid ≡ payload ++ left

canon_typed : (s mid : List ℕ) (type : AMQPType) (w left : List ℕ) (v : Tree) → IsType s type mid → Canon w v → s ≡ w ++ left → CanonTyped type mid left v
canon_typed s mid type _ left _ (c, here, k) (canon d type2 b v k2 not_U not_L p) e =
    let both : c ∷ mid ≡ d ∷ (b ++ left) = sym here ∙ e in
    let head : c ≡ d = cc in
    let same : type2 ≡ type = same_Some type2 type (sym k2 ∙ (ap kind (sym head) ∙ k)) in
    record { payload = b; is_canon = subst (λ (t : AMQPType). CanonRaw t b v) same p; prefix = cc }

module _ (d : ℕ) (s rest : List ℕ) where
  -- a value with no alternate tag is canonical if its head is
  pub head_at_start : (h : Head) → IsHead s h rest → IsFirstSpelling s → HasCanonicalBody d h → CanonPrefix d s rest
  head_at_start (head.Plain r) (type, mid, (c, here, k), q) spelled x =
      let f = q.2 in
      let first = subst IsFirstSpelling here spelled in
      let strict : IsStrict type f.0 =
      strict_by type f.0 (λ e. strict_prefix f.0 rest (subst (λ (t : List ℕ). IsStrict amqp.Boolean t) f.2 (first.2 (boolean_letter c (k ∙ ap Some e))))) in
      let p = plain_payload type f.0 (plain_tree r) f.1 q.1 (λ e. no_short_letter c (k ∙ ap Some e)) strict in
      (c ∷ f.0, plain_tree r, canon c type f.0 (plain_tree r) k first.0 first.1 p.0, omega (arith, p.1), here ∙ ap (λ (t : List ℕ). c ∷ t) f.2)
  head_at_start (head.FieldArray i) (type, mid, (c, here, k), q) spelled (some, (vs, all, deep)) =
      let body = slice_bytes i in
      let first = subst IsFirstSpelling here spelled in
      (c ∷ long_field body, array vs, canon c amqp.FieldArray (long_field body) (array vs) (k ∙ ap Some q.0) first.0 first.1 (canon_array body vs q.1.fits all), omega arith, here ∙ ap (λ (t : List ℕ). c ∷ t) q.1.framed)
  head_at_start (head.FieldTable i) (type, mid, (c, here, k), q) spelled (some, (es, all, first_of, deep)) =
      let body = slice_bytes i in
      let first = subst IsFirstSpelling here spelled in
      (c ∷ long_field body, table es, canon c amqp.FieldTable (long_field body) (table es) (k ∙ ap Some q.0) first.0 first.1 (canon_table body es q.1.fits all), omega arith, here ∙ ap (λ (t : List ℕ). c ∷ t) q.1.framed)

  -- and only then
  pub head_inside : (h : Head) (left : List ℕ) → IsHead s h rest → CanonPrefix d s left → HasCanonicalBody d h
  head_inside h left (type, mid, p, q) (w, v, x, deep, e) =
      let t = canon_typed s mid type w left v p x e in
      canon_body type t.payload v t.is_canon h mid rest left q t.prefix d deep

-- a canonical encoding is there, so is a value
pub canon_at : (d : ℕ) (s left : List ℕ) → CanonPrefix d s left → HasEncodingAtStart s
canon_at d s left (w, v, x, deep, e) = record { value_there = v; bytes = w; left = left; is_wire = canon_is_wire w v x; prefix = e }

-- ---- bodies

-- and takes at least one byte
pub rest_shorter : (d : ℕ) (s rest : List ℕ) → CanonPrefix d s rest → length rest < length s
rest_shorter d s rest (_, _, (canon c type b v k not_U not_L p), deep, e) = omega (arith, ap length e, length-append b rest)

-- if no byte is left there is no value
pub no_values : (d : ℕ) (s : List ℕ) → length s ≡ 0 → CanonValues d s
no_values d s none = subst (CanonValues d) (sym (nil_from_length s none)) (no_trees, canon_no_values, omega arith)

-- otherwise the first of them is at the start
pub first_value : (d : ℕ) (s : List ℕ) → 0 < length s → CanonValues d s → (left : List ℕ) × CanonPrefix d s left × CanonValues d left
first_value d _ some (_, canon_no_values, deep) = absurd (omega arith)
first_value d _ some (_, (canon_value w left v vs first others), deep) = (left, (w, v, first, omega arith, refl), (vs, others, omega arith))

-- what is after one canonical encoding is after each
one_rest : (d : ℕ) (s x y : List ℕ) → CanonPrefix d s x → CanonPrefix d s y → x ≡ y
one_rest d s x y (w, v, p, deep, e) (u, z, q, deep2, f) = (one_reading w u x y v z (canon_is_wire w v p) (canon_is_wire u z q) (sym e ∙ f)).2

module _ (d : ℕ) (s after : List ℕ) (prefix : CanonPrefix d s after) where
  -- after the first value the others are values, if all of them are
  pub values_after : CanonValues d s → CanonValues d after
  values_after all =
      let first = first_value d s (omega (arith, rest_shorter d s after prefix)) all in
      subst (CanonValues d) (one_rest d s first.0 after first.1 prefix) first.2

  -- and all of them are, if they are
  pub values_before : CanonValues d after → CanonValues d s
  values_before (vs, all, deep) = by prefix
    where
      by : CanonPrefix d s after → CanonValues d s
      by (w, v, x, less, e) = (tree v vs, subst (λ (t : List ℕ). CanonBody t (tree v vs)) (sym e) (canon_value w after v vs x all), omega arith)

-- ---- pairs

-- if no byte is left there is no pair
pub no_pairs : (d : ℕ) (j : Option (Bor (List ℕ))) (s : List ℕ) → length s ≡ 0 → CanonEntries d j s
no_pairs d j s none = subst (CanonEntries d j) (sym (nil_from_length s none)) (no_entries, canon_no_pairs, by j, omega arith)
  where
    by : (j : Option (Bor (List ℕ))) → AreAbove j no_entries
    by None = tt
    by (Some k) = tt

-- the first of some pairs: its key, above the one before it, its value and the others
record CanonicalFirstPair (d : ℕ) (j : Option (Bor (List ℕ))) (s : List ℕ) : Type 0 where
  pub key : List ℕ
  pub after_key : List ℕ
  pub left : List ℕ
  pub framed : s ≡ short_field key ++ after_key
  pub short_key : IsShort key
  pub above : IsAbove j key
  pub prefix : CanonPrefix d after_key left
  pub others : (k : Bor (List ℕ)) → k.now ≡ key → CanonEntries d (Some k) left

first_pair : (d : ℕ) (j : Option (Bor (List ℕ))) (s : List ℕ) → 0 < length s → CanonEntries d j s → CanonicalFirstPair d j s
first_pair d j _ some (_, canon_no_pairs, above, deep) = absurd (omega arith)
first_pair d j _ some (_, (canon_pair k w left v es key first before pairs), above, deep) =
    record {
      key = k;
      after_key = w ++ left;
      left = left;
      framed = refl;
      short_key = key;
      above = by j above;
      prefix = (w, v, first, omega arith, refl);
      others = λ j e. (es, pairs, rw e before, omega arith);
    }
  where
    by : (j : Option (Bor (List ℕ))) → AreAbove j (entry k v es) → IsAbove j k
    by None y = tt
    by (Some i) y = y

-- if there are pairs, and not zero, a key is read
pub key_there : (d : ℕ) (j : Option (Bor (List ℕ))) (s : List ℕ) (e : Refusal) → 0 < length s → CanonEntries d j s → IsRefusal (RawOutcome amqp.ShortString s) ⊥ e → ⊥
key_there d j s e some all x =
    let p = first_pair d j s some all in
    let here : RawOutcome amqp.ShortString s (found (short p.key) p.after_key) =
    subst (λ (t : List ℕ). RawOutcome amqp.ShortString t (found (short p.key) p.after_key)) (sym p.framed) (raw_found amqp.ShortString (short_field p.key) p.after_key (short p.key) (raw_short p.key p.short_key)) in
    refusal_of_none (RawOutcome amqp.ShortString s) (λ o y other. other (short p.key) p.after_key (one_raw_outcome amqp.ShortString s o (found (short p.key) p.after_key) y here)) e x

-- a key that is at the start is the first pair's
module _ (d : ℕ) (j : Option (Bor (List ℕ))) (s key after_key : List ℕ) (f : IsKeyFrame s key after_key) where
  same_key : (p : CanonicalFirstPair d j s) → (p.key ≡ key) × (p.after_key ≡ after_key)
  same_key p =
      let here = short_bytes key after_key (short_field p.key) p.after_key (short p.key) (raw_short p.key p.short_key) (sym f.framed ∙ p.framed) in
      let same = one_raw_reading amqp.ShortString (short_field p.key) (short_field key) p.after_key after_key (short p.key) (short key) (raw_short p.key p.short_key) (raw_short key here) (sym p.framed ∙ f.framed) in
      (cc, same.2)

  there : 0 < length s
  there = omega (arith, ap length f.framed)

  -- it is UTF-8
  pub key_utf8 : CanonEntries d j s → IsUtf8 key
  key_utf8 all =
      let p = first_pair d j s there all in
      subst IsUtf8 (same_key p).0 p.short_key.utf8

  -- it is above the one before it
  pub key_above : CanonEntries d j s → IsAbove j key
  key_above all =
      let p = first_pair d j s there all in
      subst (IsAbove j) (same_key p).0 p.above

  -- a canonical encoding is after it
  pub value_after : CanonEntries d j s → (left : List ℕ) × CanonPrefix d after_key left
  value_after all =
      let p = first_pair d j s there all in
      (p.left, subst (λ (t : List ℕ). CanonPrefix d t p.left) (same_key p).1 p.prefix)

  module _ (after : List ℕ) (prefix : CanonPrefix d after_key after) where
    -- after the first pair the others are pairs, if all of them are
    pub pairs_after : (k : Bor (List ℕ)) → k.now ≡ key → CanonEntries d j s → CanonEntries d (Some k) after
    pairs_after k e all =
        let p = first_pair d j s there all in
        let same = same_key p in
        let here : CanonPrefix d after_key p.left = subst (λ (t : List ℕ). CanonPrefix d t p.left) same.1 p.prefix in
        subst (CanonEntries d (Some k)) (one_rest d after_key p.left after here prefix) (p.others k (e ∙ sym same.0))

    -- and all of them are, if they are
    pub pairs_before : (k : Bor (List ℕ)) → k.now ≡ key → IsUtf8 key → IsAbove j key → CanonEntries d (Some k) after → CanonEntries d j s
    pairs_before k e utf8 above (es, all, before, deep) = by prefix
      where
        over : (j : Option (Bor (List ℕ))) (v : Tree) → IsAbove j key → AreAbove j (entry key v es)
        over None v y = tt
        over (Some i) v y = y

        by : CanonPrefix d after_key after → CanonEntries d j s
        by (w, v, x, less, g) =
            let is : IsShort key = record { few = f.few; utf8 = utf8 } in
            let pairs = canon_pair key w after v es is x (subst (λ (t : List ℕ). ComesBefore t es) e before) all in
            (entry key v es, subst (λ (t : List ℕ). CanonPairs t (entry key v es)) (sym (f.framed ∙ ap (λ (t : List ℕ). short_field key ++ t) g)) pairs, over j v above, omega arith)

    -- what is after the pair is shorter
    pub pair_shorter : length after < length s
    pair_shorter = omega (arith, ap length f.framed, length-append key after_key, rest_shorter d after_key after prefix)

-- ---- limits

-- what is inside a slice of bytes is bytes
pub bytes_all : (s : List ℕ) → ((i : ℕ) → Fits w8 (get_or s i 0)) → IsBytes s
bytes_all [] at = tt
bytes_all (c ∷ s) at = (omega (arith, at 0), bytes_all s (λ i. at (suc i)))

-- the value of a canonical encoding of bytes is read within its depth
canon_found : (d : ℕ) (w rest : List ℕ) (v : Tree) → IsBytes w → Canon w v → depth v ≤ d → OutcomeWithin d (w ++ rest) (found v rest)
canon_found d w rest v bytes x deep =
    let wire = canon_is_wire w v x in
    let fits = canon_fits w v x in
    wire_found_within d w rest v
    (subst (λ (t : List ℕ). WireWithin d t v) (sym (canon_is_text w v bytes x)) (text_within d v deep (read_is_value w v bytes wire) fits.0 fits.1))

module _ (l : Limits) (s : List ℕ) where
  -- a canonical encoding at the start, as deep as the limits allow
  pub canon_len : (rest : List ℕ) (n : ℕ) → IsBytes s → extent s ≤ l.frame → CanonPrefix l.depth s rest → length s ≡ n + length rest → IsCanonicalLen l s n
  canon_len rest n bytes fits (w, v, x, deep, e) size =
      let prefix : IsBytes w = bytes_before w rest (subst IsBytes e bytes) in
      (w, rest, v, e, omega (arith, size, ap length e, length-append w rest), x, (fits, subst (λ (t : List ℕ). OutcomeWithin l.depth t (found v rest)) (sym e) (canon_found l.depth w rest v prefix x deep)))

  pub prefix_of_len : (n : ℕ) → IsCanonicalLen l s n → (rest : List ℕ) × CanonPrefix l.depth s rest
  prefix_of_len n (w, rest, v, e, size, x, within) =
      let f = prefix_within l.depth s rest v within.1 in
      (rest, (w, v, x, depth_within l.depth f.0 v f.1, e))

  -- its header shows that it is there
  pub len_header : (h : Header) (n : ℕ) → IsHeader l.frame s h → IsCanonicalLen l s n → h ≡ header.Whole
  len_header h n is (w, rest, v, e, size, x, within) =
      by h is (subst (λ (t : List ℕ). Outcome t (found v rest)) (sym e) (wire_found w rest v (canon_is_wire w v x)))
    where
      by : (h : Header) → IsHeader l.frame s h → Outcome s (found v rest) → h ≡ header.Whole
      by header.Unknown is there = absurd (let same = one_outcome s unknown (found v rest) is.0 there in cc)
      by header.TooLarge is there = absurd (omega (arith, is, within.0))
      by (header.Lacks k) is there =
          let lacks = more_wanted Wire s (omega (arith, is.1)) in
          absurd (let same = one_outcome s (more (wanted s)) (found v rest) lacks there in cc)
      by header.Whole is there = refl

  -- one canonical encoding at most is at the start
  pub one_len : (n m : ℕ) → IsCanonicalLen l s n → IsCanonicalLen l s m → n ≡ m
  one_len n m (w, rest, v, e, size, x, within) (u, left, z, f, count, y, inside) =
      let same = (one_reading w u rest left v z (canon_is_wire w v x) (canon_is_wire u z y) (sym e ∙ f)).0 in
      sym size ∙ (ap length same ∙ count)

  -- all of the bytes
  pub len_all : IsCanonicalLen l s (length s) → IsCanonicalWithin l s
  len_all (w, rest, v, e, size, x, within) =
      let none : rest ≡ [] = nil_from_length rest (omega (arith, size, ap length e, length-append w rest)) in
      let same : w ≡ s = sym (append-nil w) ∙ (ap (λ (t : List ℕ). w ++ t) (sym none) ∙ sym e) in
      (v, subst (λ (t : List ℕ). Canon t v) same x, subst (λ (t : List ℕ). Within l s (found v t)) none within)

  pub all_len : IsCanonicalWithin l s → IsCanonicalLen l s (length s)
  all_len (v, x, within) = (s, [], v, sym (append-nil s), refl, x, within)

  -- they are canonical exactly when they are what is written for the value
  pub as_written : IsBytes s → IsCanonicalWithin l s → IsReadAsWritten l s
  as_written bytes (v, x, within) = (v, within, canon_is_text s v bytes x)

  pub written_canon : IsBytes s → IsReadAsWritten l s → IsCanonicalWithin l s
  written_canon bytes (v, within, e) =
      let f = prefix_within l.depth s [] v within.1 in
      let read = what_is_read f.0 v (wire_of l.depth f.0 v f.1) in
      let is = read_is_value f.0 v (bytes_before f.0 [] (subst IsBytes f.2 bytes)) (wire_of l.depth f.0 v f.1) in
      (v, subst (λ (t : List ℕ). Canon t v) (sym e) (text_is_canon v is read.0 read.1), within)

  -- so a length decides, and its absence: n bytes of a value, or of a table without its type tag
  pub known_by_len : (whole : ℕ → ℕ) (m : ℕ) → ((i j : ℕ) → whole i ≡ whole j → i ≡ j) → length s ≡ whole m → (r : Option ℕ) (b : Bool) → b ≡ option_eq eqb r (Some m)
      → IfSome r (λ n. IsCanonicalLen l s (whole n)) → (r ≡ None → (n : ℕ) → IsCanonicalLen l s n → ⊥) → (b ≡ true → IsCanonicalWithin l s) × (b ≡ false → IsCanonicalWithin l s → ⊥)
  known_by_len whole m one size None b is some none = (λ t. absurd (false≢true (sym is ∙ t)), λ f x. none refl (length s) (all_len x))
  known_by_len whole m one size (Some n) b is some none = (
    λ t. len_all (subst (IsCanonicalLen l s) (ap whole (eqb-true n m (sym is ∙ t)) ∙ sym size) some),
    λ f x. absurd (false≢true (sym f ∙ (is ∙ eq-eqb n m (one n m (one_len (whole n) (length s) some (all_len x) ∙ size))))),
  )
