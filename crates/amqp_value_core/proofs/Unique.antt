-- One reading: a list has at most one encoding at its start, and an encoding one meaning.
use Rattle.std.proofs.Common.{◌≡◌, ℕ, List, [], ◌++◌, length, drop, refl, sym, ap, ap₂, ◌∙◌, subst}
use Rattle.amqp_value_core.specs.declared.types.amqp_type.AMQPType.{AMQPType}
use Rattle.amqp_value_core.specs.Values.{Tree, scalar, short, long, octets, array, table, Trees, tree, Entries, entry}
use Rattle.amqp_value_core.specs.Ids.{kind}
use Rattle.amqp_value_core.specs.Layouts.{Layout, fixed}
use Rattle.amqp_value_core.specs.Grammar.{short_field, long_field, Wire, wire, Raw, raw_fixed, raw_short, raw_long, raw_octets, raw_array, raw_table, ArrayBody, no_values, value, TableBody, no_pairs, pair}
use Rattle.amqp_value_core.proofs.Bytes.{same_prefixes, one_held}
use Rattle.amqp_value_core.proofs.Headers.{payload_extent, payload_extent-raw}
use Rattle.amqp_value_core.proofs.Tables.{one_mean}

-- two payloads of one type at the start of a list are one
one_raw_prefix : (type : AMQPType) (b c x y : List ℕ) (v u : Tree) → Raw type b v → Raw type c u → b ++ x ≡ c ++ y → (b ≡ c) × (x ≡ y)
one_raw_prefix type b c x y v u p q e =
    same_prefixes b c x y (sym (payload_extent-raw type b x v p) ∙ (ap (payload_extent type) e ∙ payload_extent-raw type c y u q)) e

-- two encodings at the start of a list are one
pub one_prefix : (w u x y : List ℕ) (v z : Tree) → Wire w v → Wire u z → w ++ x ≡ u ++ y → (w ≡ u) × (x ≡ y)
one_prefix _ _ x y _ _ (wire c type b v k p) (wire d type2 b2 z k2 q) e =
    let head : c ≡ d = cc in
    let same : type2 ≡ type = one_held (kind c) type2 type (ap kind head ∙ k2) k in
    let rest = one_raw_prefix type b b2 x y v z p (subst (λ (t : AMQPType). Raw t b2 z) same q) (cc) in
    (cc, rest.1)

-- an encoding has a first byte
pub no_empty_wire : (w rest : List ℕ) (v : Tree) → Wire w v → w ++ rest ≡ [] → ⊥
no_empty_wire _ rest _ (wire c type b v k p) e = cc

-- bytes after their length in four bytes are one thing
pub same_large : (s t : List ℕ) → long_field s ≡ long_field t → s ≡ t
same_large s t e = ap (drop 4) e

-- two keys at the start of a list are one
pub one_key : (j k x y : List ℕ) → short_field j ++ x ≡ short_field k ++ y → (j ≡ k) × (x ≡ y)
one_key j k x y e =
    let count : length j ≡ length k = cc in
    same_prefixes j k x y count (ap (drop 1) e)

mutual
  -- a payload of one type has one meaning
  one_raw_meaning : (type : AMQPType) (b c : List ℕ) (v u : Tree) → Raw type b v → Raw type c u → b ≡ c → v ≡ u
  one_raw_meaning _ _ _ _ _ (raw_fixed type f b row len) (raw_fixed type2 g c row2 len2) e =
      ap₂ (λ (h : Layout) (t : List ℕ). scalar (h.denotes t)) (one_held (fixed type) f g row row2) e
  one_raw_meaning _ _ _ _ _ (raw_fixed type f b row len) _ e = absurd cc
  one_raw_meaning _ _ _ _ _ _ (raw_fixed type f c row len) e = absurd cc
  one_raw_meaning _ _ _ _ _ (raw_short s is) (raw_short t is2) e = ap short (ap (drop 1) e)
  one_raw_meaning _ _ _ _ _ (raw_long s fits) (raw_long t fits2) e = ap long (same_large s t e)
  one_raw_meaning _ _ _ _ _ (raw_octets s fits) (raw_octets t fits2) e = ap octets (same_large s t e)
  one_raw_meaning _ _ _ _ _ (raw_array body vs fits all) (raw_array body2 us fits2 all2) e =
      ap array (one_body_meaning body body2 vs us all all2 (same_large body body2 e))
  one_raw_meaning _ _ _ _ _ (raw_table body ps es fits all mean) (raw_table body2 qs fs fits2 all2 mean2) e =
      ap table (one_mean ps qs es fs (one_pairs_meaning body body2 ps qs all all2 (same_large body body2 e)) mean mean2)

  -- an encoding has one meaning
  pub one_meaning : (w u : List ℕ) (v z : Tree) → Wire w v → Wire u z → w ≡ u → v ≡ z
  one_meaning _ _ _ _ (wire c type b v k p) (wire d type2 b2 z k2 q) e =
      let head : c ≡ d = cc in
      let same : type2 ≡ type = one_held (kind c) type2 type (ap kind head ∙ k2) k in
      one_raw_meaning type b b2 v z p (subst (λ (t : AMQPType). Raw t b2 z) same q) (cc)

  -- an array's body has one meaning
  pub one_body_meaning : (b c : List ℕ) (vs us : Trees) → ArrayBody b vs → ArrayBody c us → b ≡ c → vs ≡ us
  one_body_meaning _ _ _ _ no_values no_values e = refl
  one_body_meaning _ _ _ _ no_values (value w more v us p all) e = absurd (no_empty_wire w more v p (sym e))
  one_body_meaning _ _ _ _ (value w more v vs p all) no_values e = absurd (no_empty_wire w more v p e)
  one_body_meaning _ _ _ _ (value w more v vs p all) (value w2 more2 v2 us p2 all2) e =
      let same = one_prefix w w2 more more2 v v2 p p2 e in
      ap₂ tree (one_meaning w w2 v v2 p p2 same.0) (one_body_meaning more more2 vs us all all2 same.1)

  -- a table's body has one list of pairs
  pub one_pairs_meaning : (b c : List ℕ) (ps qs : Entries) → TableBody b ps → TableBody c qs → b ≡ c → ps ≡ qs
  one_pairs_meaning _ _ _ _ no_pairs no_pairs e = refl
  one_pairs_meaning _ _ _ _ no_pairs (pair k w more v qs is p all) e = absurd cc
  one_pairs_meaning _ _ _ _ (pair k w more v ps is p all) no_pairs e = absurd cc
  one_pairs_meaning _ _ _ _ (pair k w more v ps is p all) (pair k2 w2 more2 v2 qs is2 p2 all2) e =
      let key = one_key k k2 (w ++ more) (w2 ++ more2) e in
      let same = one_prefix w w2 more more2 v v2 p p2 key.1 in
      ap (λ (j : List ℕ). entry j v ps) key.0
      ∙ ap₂ (entry k2) (one_meaning w w2 v v2 p p2 same.0) (one_pairs_meaning more more2 ps qs all all2 same.1)

-- a list has one prefix that is a payload of the type, with one meaning
pub one_raw_reading : (type : AMQPType) (b c x y : List ℕ) (v u : Tree) → Raw type b v → Raw type c u → b ++ x ≡ c ++ y → (b ≡ c) × (v ≡ u) × (x ≡ y)
one_raw_reading type b c x y v u p q e =
    let same = one_raw_prefix type b c x y v u p q e in
    (same.0, one_raw_meaning type b c v u p q same.0, same.1)

-- a list has one prefix that is an encoding, with one meaning
pub one_reading : (w u x y : List ℕ) (v z : Tree) → Wire w v → Wire u z → w ++ x ≡ u ++ y → (w ≡ u) × (v ≡ z) × (x ≡ y)
one_reading w u x y v z p q e =
    let same = one_prefix w u x y v z p q e in
    (same.0, one_meaning w u v z p q same.0, same.1)
