-- `next_value`, `next_pair` and `next_key`: in bytes that are known to be values or pairs the first
-- one is read, by its head or by its lengths only, and values or pairs are after it.
use Rattle.std.proofs.Common.{◌≡◌, ◌<◌, ℕ, List, ◌++◌, length, Some, None, refl, sym, ap, subst, arith, length-append}
use Rattle.std.proofs.Math.Logic.{∥∥₁_elim, ∥∥₁_map}
use Rattle.std.proofs.Math.Bool.{Bool-set}
use Rattle.std.proofs.lemmas.Str.{IsUtf8-from_is_utf8, is_utf8-from_IsUtf8}
use Rattle.std.specs.Coded.{le_prop}
use Rattle.std.specs.Str.{IsUtf8}
use Rattle.std.specs.Borrow.{Bor}
use Rattle.amqp_value_core.specs.Bytes.{IsShort, slice_bytes}
use Rattle.amqp_value_core.specs.declared.types.amqp_type.AMQPType.TheVariants as amqp
use Rattle.amqp_value_core.specs.Values.{Tree, Trees, tree, Entries, entry, short}
use Rattle.amqp_value_core.specs.Grammar.{short_field, raw_short, ArrayBody, no_values, value, TableBody, no_pairs, pair}
use Rattle.amqp_value_core.specs.Nesting.{nesting, OutcomeWithin}
use Rattle.amqp_value_core.specs.Outcomes.{Reading, found, more, unknown, malformed, RawOutcome}
use Rattle.amqp_value_core.proofs.GrammarLaws.{wire_within, length-wire, one_outcome_within, one_raw_reading, one_raw_outcome, raw_found, wire_found_within, short_bytes}
use Rattle.amqp_value_core.specs.declared.input.SliceInput.{SliceInput}
use Rattle.amq_protocol_types.specs.parsing.Refusals.{Refusal}
use Rattle.amq_protocol_types.specs.parsing.ParseResults.{IsRefusal}
use Rattle.amqp_in_place.specs.Bodies.{HasValues, HasPairs}
use Rattle.amqp_in_place.specs.declared.head.Head.{Head}
use Rattle.amqp_in_place.specs.declared.head.Head.TheVariants as head
use Rattle.amqp_in_place.specs.declared.refs.ValueRef.{ValueRef}
use Rattle.amqp_in_place.specs.Refs.{Denotes}
use Rattle.amqp_in_place.specs.InPlaceResults.{HeadRefuses}
use Rattle.amqp_in_place.specs.Heads.{IsHead, AtAnyDepth, HeadMeans, HeadHasMeaning, IsKeyFrame}
use Rattle.amqp_in_place.specs.Walks.{HasEncodingAtStart, NextValueIs, NextPairIs}
use Rattle.amqp_in_place.proofs.HeadLemmas.{only, head_refuses}
use Rattle.amqp_in_place.proofs.Refusals.{by_outcome}

-- what can't be has one proof at most
no_prop : IsProp ⊥
no_prop x y = absurd x

-- if reading finds something it isn't rejected
pub refusal_of_none : (Is : Reading → Type 0) → ((o : Reading) → Is o → ((v : Tree) (left : List ℕ) → o ≡ found v left → ⊥) → ⊥) → (e : Refusal) → IsRefusal Is ⊥ e → ⊥
refusal_of_none Is f e x =
    by_outcome (λ (e : Refusal). ⊥) Is ⊥ (λ n y. f (more n) y (λ v left e. cc)) (λ y. f unknown y (λ v left e. cc)) (λ y. f malformed y (λ v left e. cc)) (λ k h. h) e x

-- the head of an encoding is read
pub never_refused : (s : List ℕ) (e : Refusal) → HasEncodingAtStart s → HeadRefuses (AtAnyDepth s) e → ⊥
never_refused s e a x =
    let d = nesting a.bytes a.value_there a.is_wire in
    let here : OutcomeWithin d s (found a.value_there a.left) =
    subst (λ (t : List ℕ). OutcomeWithin d t (found a.value_there a.left)) (sym a.prefix) (wire_found_within d a.bytes a.left a.value_there (wire_within d a.bytes a.value_there a.is_wire (omega arith))) in
    refusal_of_none (AtAnyDepth s) (λ o y other. other a.value_there a.left (one_outcome_within d s o (found a.value_there a.left) (y d) here)) e (head_refuses (AtAnyDepth s) e x)

-- and means it
meant : (s : List ℕ) (h : Head) (rest : List ℕ) → IsHead s h rest → (a : HasEncodingAtStart s) → HeadMeans h a.value_there × (a.left ≡ rest)
meant s h rest is a = only s h rest a.bytes a.left a.value_there is a.is_wire a.prefix

-- the bodies of heads that mean something
pub meant_values : (h : Head) (i : SliceInput) → h ≡ head.FieldArray i → ∥ HeadHasMeaning h ∥₁ → ∥ HasValues (slice_bytes i) ∥₁
meant_values h i is m = ∥∥₁_map (subst (λ (k : Head). ∥ HeadHasMeaning k ∥₁) is m) (λ (x : HeadHasMeaning (head.FieldArray i)). (x.1.0, x.1.1))

pub meant_pairs : (h : Head) (i : SliceInput) → h ≡ head.FieldTable i → ∥ HeadHasMeaning h ∥₁ → ∥ HasPairs (slice_bytes i) ∥₁
meant_pairs h i is m = ∥∥₁_map (subst (λ (k : Head). ∥ HeadHasMeaning k ∥₁) is m) (λ (x : HeadHasMeaning (head.FieldTable i)). (x.1.1.0, x.1.1.1))

-- ---- the value at the start

-- its head is read
pub read_there : (s : List ℕ) (e : Refusal) → ∥ HasEncodingAtStart s ∥₁ → HeadRefuses (AtAnyDepth s) e → ⊥
read_there s e has x = ∥∥₁_elim has no_prop (λ (a : HasEncodingAtStart s). never_refused s e a x)

-- and means it
pub meant_there : (s : List ℕ) (h : Head) (rest : List ℕ) → IsHead s h rest → ∥ HasEncodingAtStart s ∥₁ → ∥ HeadHasMeaning h ∥₁
meant_there s h rest is has = ∥∥₁_map has (λ (a : HasEncodingAtStart s). (a.value_there, (meant s h rest is a).0))

-- ---- values

-- the first of some values
record FirstValue (s : List ℕ) (vs : Trees) : Type 0 where
  pub at : HasEncodingAtStart s
  pub others : Trees
  pub are : vs ≡ tree at.value_there others
  pub more_values : ArrayBody at.left others

first_value : (s : List ℕ) (vs : Trees) → 0 < length s → ArrayBody s vs → FirstValue s vs
first_value _ _ some no_values = absurd (omega arith)
first_value _ _ some (value w left v vs p all) =
    record { at = record { value_there = v; bytes = w; left = left; is_wire = p; prefix = refl }; others = vs; are = refl; more_values = all }

pub value_at_start : (s : List ℕ) → 0 < length s → ∥ HasValues s ∥₁ → ∥ HasEncodingAtStart s ∥₁
value_at_start s some has = ∥∥₁_map has (λ (p : HasValues s). (first_value s p.0 some p.1).at)

module _ (s : List ℕ) (h : Head) (rest : List ℕ) (some : 0 < length s) (is : IsHead s h rest) where
  -- values are after it
  pub values_after : ∥ HasValues s ∥₁ → (length rest < length s) × ∥ HasValues rest ∥₁
  values_after has = (
    ∥∥₁_elim has le_prop (λ (p : HasValues s).
        let a = (first_value s p.0 some p.1).at in
        omega (arith, ap length (meant s h rest is a).1, ap length a.prefix, length-append a.bytes a.left, length-wire a.bytes a.value_there a.is_wire)),
    ∥∥₁_map has (λ (p : HasValues s).
        let first = first_value s p.0 some p.1 in
        (first.others, subst (λ (t : List ℕ). ArrayBody t first.others) (meant s h rest is first.at).1 first.more_values)),
  )

-- the value that is given is the first
pub value_given : (s : List ℕ) (h : Head) (vs : Trees) (x : ValueRef × SliceInput) → 0 < length s → IsHead s h (slice_bytes x.1)
    → ((v : Tree) → HeadMeans h v → Denotes x.0 v) → ArrayBody s vs → NextValueIs vs (Some x)
value_given s h vs x some is stands p =
    let first = first_value s vs some p in
    let m = meant s h (slice_bytes x.1) is first.at in
    let given : NextValueIs (tree first.at.value_there first.others) (Some x) =
    (stands first.at.value_there m.0, subst (λ (t : List ℕ). ArrayBody t first.others) m.1 first.more_values) in
    subst (λ (us : Trees). NextValueIs us (Some x)) (sym first.are) given

-- if no byte is left there is no value
pub no_value_given : (s : List ℕ) (vs : Trees) → length s ≡ 0 → ArrayBody s vs → NextValueIs vs None
no_value_given _ _ e no_values = tt
no_value_given _ _ e (value w left v vs p all) = absurd (omega (arith, length-append w left, length-wire w v p))

-- ---- pairs

-- if there are pairs, and not zero, a key is read
pub key_there : (s : List ℕ) (e : Refusal) → 0 < length s → ∥ HasPairs s ∥₁ → IsRefusal (RawOutcome amqp.ShortString s) ⊥ e → ⊥
key_there s e some has x =
    ∥∥₁_elim has no_prop (λ (p : HasPairs s). refusal_of_none (RawOutcome amqp.ShortString s) (λ o y other. by s p.0 o some p.1 y other) e x)
  where
    by : (s : List ℕ) (ps : Entries) (o : Reading) → 0 < length s → TableBody s ps → RawOutcome amqp.ShortString s o → ((v : Tree) (left : List ℕ) → o ≡ found v left → ⊥) → ⊥
    by _ _ o some no_pairs y other = absurd (omega arith)
    by _ _ o some (pair k w left v ps is p all) y other =
        other (short k) (w ++ left)
        (one_raw_outcome amqp.ShortString (short_field k ++ (w ++ left)) o (found (short k) (w ++ left)) y
        (raw_found amqp.ShortString (short_field k) (w ++ left) (short k) (raw_short k is)))

-- the first of some pairs, whose key was read: its value is at the beginning of what is after
-- the key
record FirstPairStep (s key after : List ℕ) (ps : Entries) : Type 0 where
  pub at : HasEncodingAtStart after
  pub others : Entries
  pub are : ps ≡ entry key at.value_there others
  pub short_key : IsShort key
  pub more_pairs : TableBody at.left others

first_pair : (s key after : List ℕ) (ps : Entries) → IsKeyFrame s key after → TableBody s ps → FirstPairStep s key after ps
first_pair _ key after _ f no_pairs = let e = f.framed in absurd cc
first_pair _ key after _ f (pair k w left v ps is p all) =
    let here = short_bytes key after (short_field k) (w ++ left) (short k) (raw_short k is) (sym f.framed) in
    let same = one_raw_reading amqp.ShortString (short_field k) (short_field key) (w ++ left) after (short k) (short key) (raw_short k is) (raw_short key here) f.framed in
    let one : k ≡ key = cc in
    record {
      at = record { value_there = v; bytes = w; left = left; is_wire = p; prefix = sym same.2 };
      others = ps;
      are = ap (λ j. entry j v ps) one;
      short_key = here;
      more_pairs = all;
    }

module _ (s key after : List ℕ) (f : IsKeyFrame s key after) where
  -- the key is UTF-8
  pub key_utf8 : ∥ HasPairs s ∥₁ → IsUtf8 key
  key_utf8 has =
      IsUtf8-from_is_utf8 key (∥∥₁_elim has (Bool-set _ _) (λ (p : HasPairs s). is_utf8-from_IsUtf8 key (first_pair s key after p.0 f p.1).short_key.utf8))

  -- an encoding is after it
  pub pair_at_start : ∥ HasPairs s ∥₁ → ∥ HasEncodingAtStart after ∥₁
  pair_at_start has = ∥∥₁_map has (λ (p : HasPairs s). (first_pair s key after p.0 f p.1).at)

  -- pairs are after it
  pub pairs_after : (h : Head) (rest : List ℕ) → IsHead after h rest → ∥ HasPairs s ∥₁ → (length rest < length s) × ∥ HasPairs rest ∥₁
  pairs_after h rest is has = (
    ∥∥₁_elim has le_prop (λ (p : HasPairs s).
        let a = (first_pair s key after p.0 f p.1).at in
        omega (arith, ap length (meant after h rest is a).1, ap length a.prefix, length-append a.bytes a.left, ap length f.framed, length-append key after)),
    ∥∥₁_map has (λ (p : HasPairs s).
        let first = first_pair s key after p.0 f p.1 in
        (first.others, subst (λ (t : List ℕ). TableBody t first.others) (meant after h rest is first.at).1 first.more_pairs)),
  )

-- the pair that is given is the first
pub pair_given : (s : List ℕ) (h : Head) (ps : Entries) (after : List ℕ) (x : Bor (List ℕ) × ValueRef × SliceInput) → IsKeyFrame s x.0.now after
    → IsHead after h (slice_bytes x.2) → ((v : Tree) → HeadMeans h v → Denotes x.1 v) → TableBody s ps → NextPairIs ps (Some x)
pair_given s h ps after x f is stands p =
    let first = first_pair s x.0.now after ps f p in
    let m = meant after h (slice_bytes x.2) is first.at in
    let given : NextPairIs (entry x.0.now first.at.value_there first.others) (Some x) =
    (refl, stands first.at.value_there m.0, subst (λ (t : List ℕ). TableBody t first.others) m.1 first.more_pairs) in
    subst (λ (qs : Entries). NextPairIs qs (Some x)) (sym first.are) given

-- if no byte is left there is no pair
pub no_pair_given : (s : List ℕ) (ps : Entries) → length s ≡ 0 → TableBody s ps → NextPairIs ps None
no_pair_given _ _ e no_pairs = tt
no_pair_given _ _ e (pair k w left v ps is p all) = absurd (omega arith)
