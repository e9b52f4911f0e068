-- Lemmas on `LooksUp` and `LooksUpNth`: the search through pairs or values, and the entry at the
-- place that it finds.
use Rattle.std.proofs.Common.{◌≡◌, ◌+◌, ◌-◌, ◌≤◌, ℕ, suc, IfOk, IfSome, Bool, true, false, List, [], ◌++◌, length, take, drop, Option, Some, None, option_map, Result, Ok, Err, refl, sym, ap, ◌∙◌, subst, arith, length-append}
use Rattle.std.proofs.lemmas.List.{drop_at, take-take}
use Rattle.amqp_value_core.specs.Values.{Tree, Trees, Entries}
use Rattle.amqp_value_core.specs.Maps.{value_at}
use Rattle.amqp_value_core.specs.Grammar.{short_field, Wire, ArrayBody}
use Rattle.amq_protocol_types.specs.parsing.Headers.{extent}
use Rattle.amqp_in_place.specs.Walks.{tree_at}
use Rattle.amqp_in_place.specs.declared.path.EqualKeys.TheVariants as equal
use Rattle.amqp_in_place.specs.Encoded.{EncodedValue, nth_encoded, first_encoded, last_encoded}
use Rattle.amqp_in_place.proofs.Lookups.{nth_meaning, pair_meaning}
use Rattle.amqp_in_place.proofs.Searches.{bytes_of, one_pair, one_value, nth_has, first_has, last_has}
use Rattle.amqp_c.specs.declared.cursor.Cursor.{Cursor}
use Rattle.amqp_c.specs.declared.entry.Entry.{Entry}
use Rattle.amqp_c.specs.declared.fault.Fault.{Fault}
use Rattle.amqp_c.specs.declared.fault.Fault.TheVariants.{Cut}
use Rattle.amqp_c.specs.declared.span.Span.{Span}
use Rattle.amqp_c.specs.Entries.{array_tag, table_tag, part, rest_after, last, SpanIsIn, IsTagged, IsTrueTo, EntryIsIn}
use Rattle.amqp_in_place.specs.Searches.{IsHeaded, HasPair, HasNth, IsPlaceIn}
use Rattle.amqp_c.specs.Steps.{HasNoPair, StandsAlone, StandsKeyed, EndsIn}
use Rattle.amqp_c.specs.LookUps.{HasEntriesBy, IsOf, GivesFound, GivesBytes, StandsAtKey, IsFoundIn, FindsIn, LooksUp, LooksUpNth}
use Rattle.amqp_c.proofs.Parts.{part_after, part_length, part_last}
use Rattle.amqp_c.proofs.Steps.{one_key}

-- ---- the entry at a place

-- how the entry of a pair with the key, or of a value, is at the beginning of its place
record IsPlacedBy (Stands : List ℕ → Span → Entry → Type 0) (s : List ℕ) (p : Span) (e : Entry) (value : List ℕ) : Type 0 where
  pub stands : Stands s p e
  pub bytes : part s e.value ≡ take (extent value) value
  pub whole : IsHeaded value

alone_placed : (s : List ℕ) (p : Span) (e : Entry) (value : List ℕ) → SpanIsIn (length s) p → EntryIsIn (length s) e → StandsAlone s p e → EndsIn p e → part s p ≡ value → IsPlacedBy StandsAlone s p e value
alone_placed s p e value in_s inside stands ends is =
    subst (IsPlacedBy StandsAlone s p e) is record {
      stands = stands;
      bytes = ap (λ (o : ℕ). take e.value.length (drop o s)) stands.1
          ∙ (sym (take-take e.value.length p.length (drop p.offset s) (omega (arith, ends.1)))
          ∙ ap (λ (n : ℕ). take n (part s p)) stands.2);
      whole = (omega (arith, inside.some, stands.2), omega (arith, stands.2, part_length s p in_s, ends.1));
    }

key_placed : (s : List ℕ) (p : Span) (e : Entry) (key value : List ℕ) → SpanIsIn (length s) p → EntryIsIn (length s) e → StandsKeyed s p e → EndsIn p e → part s p ≡ short_field key ++ value
    → IsPlacedBy (StandsAtKey key) s p e value
key_placed s p e key value in_s inside stands ends is =
    let keyed : part s e.key ≡ key = one_key (part s e.key) key (part s p) stands.2 (value, is) in
    let key_size : e.key.length ≡ length key = sym (part_length s e.key inside.key) ∙ ap length keyed in
    let there : suc (length key) ≤ p.length = omega (arith, ap length is, part_length s p in_s, length-append key value) in
    let after_key : part s (rest_after p e.key) ≡ value =
    part_after s p e.key (suc (length key)) (omega (arith, stands.0, key_size)) there ∙ (ap (drop (suc (length key))) is ∙ drop_at key value (length key) refl) in
    let size : e.value.length ≡ extent value = stands.3 ∙ ap extent after_key in
    let few : e.value.length ≤ p.offset + p.length - (e.key.offset + e.key.length) = omega (arith, stands.1, ends.1) in
    record {
      stands = (keyed, stands);
      bytes = ap (λ (o : ℕ). take e.value.length (drop o s)) stands.1
          ∙ (sym (take-take e.value.length (p.offset + p.length - (e.key.offset + e.key.length)) (drop (e.key.offset + e.key.length) s) few)
          ∙ (ap (take e.value.length) after_key ∙ ap (λ (n : ℕ). take n value) size));
      whole = (omega (arith, size, inside.some), omega (arith, size, stands.0, stands.1, key_size, ends.1, ap length is, part_length s p in_s, length-append key value));
    }

-- ---- what a look-up returns

module _ (tag : ℕ) (Has : List ℕ → Option (List ℕ) → Type 0) (Stands : List ℕ → Span → Entry → Type 0) (s : List ℕ) (c : Cursor) (body : List ℕ) (of : IsOf tag (length s) c) (is : body ≡ part s c.left)
    (one : (t : List ℕ) (w u : Option (List ℕ)) → Has t w → Has t u → w ≡ u) where
  here_by : (w : Option (List ℕ)) → Has body w → Has (part s c.left) w
  here_by w x = subst (λ (t : List ℕ). Has t w) is x

  finds_none : Has body None → FindsIn tag Has Stands s c (Ok None)
  finds_none has = record {
    at = λ w _ x. subst (λ (o : Option (List ℕ)). GivesBytes s o (Ok None)) (one (part s c.left) None w (here_by None has) x) tt;
    entry = tt;
    valid = (of, None, here_by None has);
    refused = tt;
  }

  finds_cut : ((w : Option (List ℕ)) → Has body w → ⊥) → FindsIn tag Has Stands s c (Err Cut)
  finds_cut none =
      let bad : (w : Option (List ℕ)) → Has (part s c.left) w → ⊥ = λ w x. none w (subst (λ (t : List ℕ). Has t w) (sym is) x) in
      record { at = λ w _ x. absurd (bad w x); entry = tt; valid = tt; refused = (of, bad) }

  -- the entry at a place
  module _ (before value : List ℕ) (p : Span) (place : IsPlaceIn (Has body) before body value) (at : p ≡ last c.left (length (before ++ value))) where
    abbrev n : ℕ
    n = length (before ++ value)

    size : length body ≡ length place.left.0 + n
    size = ap length place.left.1 ∙ length-append place.left.0 (before ++ value)

    few : n ≤ c.left.length
    few = omega (arith, size, ap length is, part_length s c.left of.0)

    place_in : SpanIsIn (length s) p
    place_in = subst (SpanIsIn (length s)) (sym at) (omega (arith, of.0, few))

    place_begins : part s p ≡ before ++ value
    place_begins =
        ap (part s) at
        ∙ (part_last s c.left n of.0 few
        ∙ (ap (λ (t : List ℕ). drop (length t - n) t) (sym is)
        ∙ (ap (drop (length body - n)) place.left.1
        ∙ drop_at place.left.0 (before ++ value) (length body - n) (omega (arith, size)))))

    finds_entry : (e : Entry) → IsTagged (part s e.value) e → IsTrueTo s e → EntryIsIn (length s) e → EndsIn p e → IsPlacedBy Stands s p e value → FindsIn tag Has Stands s c (Ok (Some e))
    finds_entry e typed faithful inside ends placed =
        let w = take (extent value) value in
        let has : Has (part s c.left) (Some w) = here_by (Some w) (place.meant placed.whole) in record {
          at = λ u _ x. subst (λ (o : Option (List ℕ)). GivesBytes s o (Ok (Some e))) (one (part s c.left) (Some w) u has x) placed.bytes;
          entry = record {
            typed = typed;
            faithful = faithful;
            inside = inside;
            stands = (n, few, subst (λ (q : Span). Stands s q e) at placed.stands, subst (λ (q : Span). EndsIn q e) at ends);
          };
          valid = (of, Some w, has);
          refused = tt;
        }

-- ---- what is encoded

-- the bytes are those of the value, if there is one
abbrev IsFoundValue : Option (List ℕ) → Option Tree → Type 0
IsFoundValue None None = Unit {0}
IsFoundValue (Some w) (Some v) = Wire w v
IsFoundValue _ _ = ⊥

-- what is meant by the lengths is the encoding of the value that is meant
abbrev Means : (List ℕ → Option (List ℕ) → Type 0) → List ℕ → Option Tree → Type 0
Means Has t o = (w : Option (List ℕ)) × Has t w × IsFoundValue w o

encoded_meant : (o : Option EncodedValue) → IsFoundValue (bytes_of o) (option_map (λ (e : EncodedValue). e.meaning) o)
encoded_meant None = tt
encoded_meant (Some e) = e.is_wire

entries_meant : (first : Bool) (key t : List ℕ) (es : Entries) → HasEntriesBy first t es → Means (HasPair first key) t (value_at key es)
entries_meant true key t ps p =
    let o = first_encoded key t ps p in
    (bytes_of o, first_has key t ps p, subst (IsFoundValue (bytes_of o)) (pair_meaning equal.First key t ps p) (encoded_meant o))
entries_meant false key t es (ps, p, mean) =
    let o = last_encoded key t ps p in
    (bytes_of o, last_has key t ps p, subst (IsFoundValue (bytes_of o)) (pair_meaning equal.Last key t ps p ∙ sym (mean.last key)) (encoded_meant o))

nth_meant : (n : ℕ) (t : List ℕ) (vs : Trees) → ArrayBody t vs → Means (HasNth n) t (tree_at n vs)
nth_meant n t vs p = let o = nth_encoded n t vs p in (bytes_of o, nth_has n t vs p, subst (IsFoundValue (bytes_of o)) (nth_meaning n t vs p) (encoded_meant o))

-- so if a value's bytes are found, the value is
value_found : (tag : ℕ) (Has : List ℕ → Option (List ℕ) → Type 0) (Stands : List ℕ → Span → Entry → Type 0) (s : List ℕ) (c : Cursor) (r : Result (Option Entry) Fault) (o : Option Tree)
    → FindsIn tag Has Stands s c r → IsOf tag (length s) c → Means Has (part s c.left) o → GivesFound s o r
value_found tag Has Stands s c r o finds of (w, has, is) = by w o r (finds.at w of has) is finds.entry
  where
    by : (w : Option (List ℕ)) (o : Option Tree) (r : Result (Option Entry) Fault) → GivesBytes s w r → IsFoundValue w o → IfOk r (λ o. IfSome o (IsFoundIn Stands s c.left)) → GivesFound s o r
    by None None (Ok None) g m x = tt
    by (Some w) (Some v) (Ok (Some e)) g m x = x.faithful v (subst (λ (u : List ℕ). Wire u v) (sym g) m)
    by None (Some v) _ g m x = absurd m
    by (Some w) None _ g m x = absurd m
    by None None _ g m x = absurd g
    by (Some w) (Some v) _ g m x = absurd g

-- ---- by a key

module _ (first : Bool) (s : List ℕ) (c : Cursor) (key body : List ℕ) (of : IsOf table_tag (length s) c) (is : body ≡ part s c.left) where
  by_key : (r : Result (Option Entry) Fault) → FindsIn table_tag (HasPair first key) (StandsAtKey key) s c r → LooksUp first s c key r
  by_key r finds = record {
    found = λ es _ x. value_found table_tag (HasPair first key) (StandsAtKey key) s c r (value_at key es) finds of (entries_meant first key (part s c.left) es x);
    finds = finds;
  }

  pub none_at_key : HasPair first key body None → LooksUp first s c key (Ok None)
  none_at_key has = by_key (Ok None) (finds_none table_tag (HasPair first key) (StandsAtKey key) s c body of is (one_pair first key) has)

  pub cut_before_key : ((w : Option (List ℕ)) → HasPair first key body w → ⊥) → LooksUp first s c key (Err Cut)
  cut_before_key none = by_key (Err Cut) (finds_cut table_tag (HasPair first key) (StandsAtKey key) s c body of is (one_pair first key) none)

  module _ (value : List ℕ) (p : Span) (place : IsPlaceIn (HasPair first key body) (short_field key) body value) (at : p ≡ last c.left (length (short_field key ++ value))) where
    begins : part s p ≡ short_field key ++ value
    begins = place_begins table_tag (HasPair first key) (StandsAtKey key) s c body of is (one_pair first key) (short_field key) value p place at

    pub cut_at_key : HasNoPair (part s p) → LooksUp first s c key (Err Cut)
    cut_at_key none = cut_before_key (λ w x. none key value begins (place.only w x))

    pub found_at_key : (e : Entry) → StandsKeyed s p e → IsTagged (part s e.value) e → IsTrueTo s e → EntryIsIn (length s) e → EndsIn p e → LooksUp first s c key (Ok (Some e))
    found_at_key e stands typed faithful inside ends =
        let in_s = place_in table_tag (HasPair first key) (StandsAtKey key) s c body of is (one_pair first key) (short_field key) value p place at in
        by_key (Ok (Some e))
        (finds_entry table_tag (HasPair first key) (StandsAtKey key) s c body of is (one_pair first key) (short_field key) value p place at e typed faithful inside ends
        (key_placed s p e key value in_s inside stands ends begins))

-- ---- by an index

module _ (s : List ℕ) (c : Cursor) (index : ℕ) (body : List ℕ) (of : IsOf array_tag (length s) c) (is : body ≡ part s c.left) where
  by_index : (r : Result (Option Entry) Fault) → FindsIn array_tag (HasNth index) StandsAlone s c r → LooksUpNth s c index r
  by_index r finds = record {
    found = λ vs _ x. value_found array_tag (HasNth index) StandsAlone s c r (tree_at index vs) finds of (nth_meant index (part s c.left) vs x);
    finds = finds;
  }

  pub none_at_index : HasNth index body None → LooksUpNth s c index (Ok None)
  none_at_index has = by_index (Ok None) (finds_none array_tag (HasNth index) StandsAlone s c body of is (one_value index) has)

  pub cut_before_index : ((w : Option (List ℕ)) → HasNth index body w → ⊥) → LooksUpNth s c index (Err Cut)
  cut_before_index none = by_index (Err Cut) (finds_cut array_tag (HasNth index) StandsAlone s c body of is (one_value index) none)

  module _ (value : List ℕ) (p : Span) (place : IsPlaceIn (HasNth index body) [] body value) (at : p ≡ last c.left (length value)) where
    is_value : part s p ≡ value
    is_value = place_begins array_tag (HasNth index) StandsAlone s c body of is (one_value index) [] value p place at

    pub cut_at_index : (IsHeaded (part s p) → ⊥) → LooksUpNth s c index (Err Cut)
    cut_at_index none = cut_before_index (λ w x. none (subst IsHeaded (sym is_value) (place.only w x)))

    pub found_at_index : (e : Entry) → StandsAlone s p e → IsTagged (part s e.value) e → IsTrueTo s e → EntryIsIn (length s) e → EndsIn p e → LooksUpNth s c index (Ok (Some e))
    found_at_index e stands typed faithful inside ends =
        let in_s = place_in array_tag (HasNth index) StandsAlone s c body of is (one_value index) [] value p place at in
        by_index (Ok (Some e))
        (finds_entry array_tag (HasNth index) StandsAlone s c body of is (one_value index) [] value p place at e typed faithful inside ends
        (alone_placed s p e value in_s inside stands ends is_value))
