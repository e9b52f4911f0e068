-- The search for a value by type tags and lengths: what its steps keep, and that in a body it finds
-- the encoding that is there.
use Rattle.std.proofs.Common.{◌≡◌, ◌-◌, ◌<◌, ℕ, zero, suc, Bool, true, false, cond, ◌⊎◌, inl, inr, List, [], ◌++◌, length, take, drop, Option, Some, None, option_map, IfSome, MatchOption, refl, sym, ap, ◌∙◌, subst, arith, length-append}
use Rattle.std.proofs.lemmas.List.{take_at, drop_at, take-append-drop, nil_from_length}
use Rattle.std.proofs.lemmas.Option.{same_Some}
use Rattle.std.specs.Borrow.{Bor}
use Rattle.std.specs.Option.{option_or}
use Rattle.std.specs.Cmp.Lexicographic.{bytes_decides}
use Rattle.amqp_value_core.specs.Values.{Tree, Trees, Entries}
use Rattle.amqp_value_core.specs.Maps.{same_bytes}
use Rattle.amqp_value_core.specs.Grammar.{short_field, Wire, ArrayBody, no_values, value as a_value, TableBody, no_pairs, pair}
use Rattle.amqp_value_core.proofs.GrammarLaws.{length-wire, one_key}
use Rattle.amq_protocol_types.specs.parsing.Headers.{extent}
use Rattle.amq_protocol_types.proofs.ParsingLaws.{wire_extent}
use Rattle.amqp_in_place.specs.InPlaceResults.{IsLeft}
use Rattle.amqp_in_place.specs.Walks.{BeginsWith}
use Rattle.amqp_in_place.specs.Encoded.{EncodedValue, nth_encoded, first_encoded, last_encoded, encoded_of}
use Rattle.amqp_in_place.specs.Searches.{IsHeaded, HasPair, none_left, first_here, one_more, HasNth, too_few, here, later, IsPlaceIn, HasNoKey, is_first}
use Rattle.amqp_in_place.specs.declared.path.EqualKeys.{EqualKeys}
use Rattle.amqp_in_place.specs.declared.path.EqualKeys.TheVariants as equal
use Rattle.amqp_in_place.proofs.Lookups.{or_assoc, or_none}
use Rattle.amqp_in_place.proofs.Places.{left_of_left, nothing_before}

-- what is after a value at the start of what is left
pub left_after : (s left rest : List ℕ) → IsLeft s left → rest ≡ drop (extent left) left → IsLeft s rest
left_after s left rest before is = left_of_left s left rest before (subst (IsLeft left) (sym is) (take (extent left) left, sym (take-append-drop (extent left) left)))

-- an encoding, by its type tag and its length
pub record HeadedEncoding (w rest : List ℕ) : Type 0 where
  pub whole : IsHeaded (w ++ rest)
  pub prefix : take (extent (w ++ rest)) (w ++ rest) ≡ w
  pub after : drop (extent (w ++ rest)) (w ++ rest) ≡ rest

pub headed : (w rest : List ℕ) (v : Tree) → Wire w v → HeadedEncoding w rest
headed w rest v q =
    let wide : extent (w ++ rest) ≡ length w = wire_extent w rest v q in record {
      whole = (omega (arith, wide, length-wire w v q), omega (arith, wide, length-append w rest));
      prefix = take_at w rest (extent (w ++ rest)) (sym wide);
      after = drop_at w rest (extent (w ++ rest)) (sym wide);
    }

-- ---- pairs

-- the bytes of the pair's value, if it has the key
abbrev pub at_key : List ℕ → List ℕ → List ℕ → Option (List ℕ)
at_key key k value = cond (same_bytes key k) (Some (take (extent value) value)) None

-- the pair at the start is the first with the key, and that is meant; or what is meant is after it, or it
record PairSplit (first : Bool) (key name value : List ℕ) (w : Option (List ℕ)) : Type 0 where
  pub whole : IsHeaded value
  pub either : (((first ≡ true) × (name ≡ key)) × (w ≡ Some (take (extent value) value)))
      ⊎ ((first ≡ true → name ≡ key → ⊥) × (u : Option (List ℕ)) × HasPair first key (drop (extent value) value) u × (w ≡ option_or u (at_key key name value)))

pair_split : (first : Bool) (key left name value : List ℕ) (w : Option (List ℕ)) → left ≡ short_field name ++ value → HasPair first key left w → PairSplit first key name value w
pair_split first key _ name value _ e none_left = absurd cc
pair_split first key _ name value _ e (first_here v is whole) =
    let (same, there) = one_key key name v value e in
    subst (λ (t : List ℕ). PairSplit first key name t (Some (take (extent v) v))) there record { whole = whole; either = inl ((is, sym same), refl) }
pair_split first key _ name value _ e (one_more k v u other whole rest) =
    let (same, there) = one_key k name v value e in
    subst (λ (t : List ℕ). PairSplit first key name t (option_or u (at_key key k v))) there
    (subst (λ (n : List ℕ). PairSplit first key n v (option_or u (at_key key k v))) same record { whole = whole; either = inr (other, u, rest, refl) })

none_meant : (first : Bool) (key left : List ℕ) (w : Option (List ℕ)) → length left ≡ 0 → HasPair first key left w → w ≡ None
none_meant first key _ _ none none_left = refl
none_meant first key _ _ none (first_here value is whole) = absurd (omega arith)
none_meant first key _ _ none (one_more k value w other whole rest) = absurd (omega arith)

-- only one is meant
pub one_pair : (first : Bool) (key s : List ℕ) (w u : Option (List ℕ)) → HasPair first key s w → HasPair first key s u → w ≡ u
one_pair first key _ _ u none_left x = sym (none_meant first key [] u refl x)
one_pair first key _ _ u (first_here value is whole) x = elim (pair_split first key _ key value u refl x).either [
  | inl same ↦ sym same.1
  | inr other ↦ absurd (other.0 is refl)
]
one_pair first key _ _ u (one_more k value w other whole rest) x = elim (pair_split first key _ k value u refl x).either [
  | inl same ↦ absurd (other same.0.0 same.0.1)
  | inr more ↦ ap (λ (o : Option (List ℕ)). option_or o (at_key key k value)) (one_pair first key (drop (extent value) value) w more.1 rest more.2) ∙ sym more.3
]

pub differ : (key name : List ℕ) → same_bytes key name ≡ false → name ≡ key → ⊥
differ key name other same = let yes : same_bytes key name ≡ true = (bytes_decides key name).1 (sym same) in absurd cc

-- bytes that begin with no key
pub no_key : (first : Bool) (key left : List ℕ) (w : Option (List ℕ)) → HasNoKey left → 0 < length left → HasPair first key left w → ⊥
no_key first key _ _ none some none_left = omega arith
no_key first key _ _ none some (first_here value is whole) = none key value refl (omega (arith, whole.0, whole.1))
no_key first key _ _ none some (one_more k value w other whole rest) = none k value refl (omega (arith, whole.0, whole.1))

-- a pair with the key, and one with another
pub named : (key k value : List ℕ) → same_bytes key k ≡ true → IsHeaded value → HasPair true key (short_field k ++ value) (Some (take (extent value) value))
named key k value so whole = subst (λ (n : List ℕ). HasPair true key (short_field n ++ value) (Some (take (extent value) value))) ((bytes_decides key k).0 so) (first_here value refl whole)

pub passed : (key k value : List ℕ) (w : Option (List ℕ)) → same_bytes key k ≡ false → IsHeaded value → HasPair true key (drop (extent value) value) w → HasPair true key (short_field k ++ value) w
passed key k value w so whole rest =
    let same : option_or w (at_key key k value) ≡ w = ap (λ (b : Bool). option_or w (cond b (Some (take (extent value) value)) None)) so ∙ or_none w in
    subst (HasPair true key (short_field k ++ value)) same (one_more k value w (λ _. differ key k so) whole rest)

-- ---- what is left while searching

-- the bytes are those of the value that was seen there, the last with the key
abbrev pub IsSeenAt : List ℕ → List ℕ → Option (List ℕ) → Option (Bor (List ℕ)) → Type 0
IsSeenAt key all None None = Unit {0}
IsSeenAt key all (Some w) (Some at) = IsLeft all (short_field key ++ at.now) × IsHeaded at.now × (w ≡ take (extent at.now) at.now)
IsSeenAt key all _ _ = ⊥

-- so far the last pair with the key was seen there, and if what is meant in the bytes that are left is there,
-- it or else this is meant in all
pub record SearchedTo (first : Bool) (key all left : List ℕ) (at : Option (Bor (List ℕ))) : Type 0 where
  pub ends : IsLeft all left
  pub seen : Option (List ℕ)
  pub is_at : IsSeenAt key all seen at
  pub all_by : (u : Option (List ℕ)) → HasPair first key left u → HasPair first key all (option_or u seen)
  pub left_by : (w : Option (List ℕ)) → HasPair first key all w → (u : Option (List ℕ)) × HasPair first key left u

pub search_start : (first : Bool) (key all : List ℕ) → SearchedTo first key all all None
search_start first key all = record {
  ends = nothing_before all;
  seen = None;
  is_at = tt;
  all_by = λ u x. subst (HasPair first key all) (sym (or_none u)) x;
  left_by = λ w x. (w, x);
}

-- one pair more
module _ (first : Bool) (key all left name : List ℕ) (value : Bor (List ℕ)) (old : Option (Bor (List ℕ))) (e : left ≡ short_field name ++ value.now) (so_far : SearchedTo first key all left old) where
  abbrev pub v : List ℕ
  v = value.now

  at_name : key ≡ name → left ≡ short_field key ++ v
  at_name same = e ∙ ap (λ (k : List ℕ). short_field k ++ v) (sym same)

  pub search_step : (rest : List ℕ) (new : Option (Bor (List ℕ))) → (first ≡ true → name ≡ key → ⊥) → IsHeaded v → rest ≡ drop (extent v) v
      → new ≡ cond (same_bytes key name) (Some value) old → SearchedTo first key all rest new
  search_step rest new other whole is made = record {
    ends = left_after all v rest (left_of_left all left v so_far.ends (short_field name, e)) is;
    seen = option_or (at_key key name v) so_far.seen;
    is_at = subst (IsSeenAt key all (option_or (at_key key name v) so_far.seen)) (sym made) (pick (same_bytes key name) refl);
    all_by = λ u x.
        let before = one_more name v u other whole (subst (λ (t : List ℕ). HasPair first key t u) is x) in
        subst (HasPair first key all) (or_assoc u (at_key key name v) so_far.seen)
        (so_far.all_by (option_or u (at_key key name v)) (subst (λ (t : List ℕ). HasPair first key t (option_or u (at_key key name v))) (sym e) before));
    left_by = λ w x.
        let (u, there) = so_far.left_by w x in
        elim (pair_split first key left name v u e there).either [
          | inl same ↦ absurd (other same.0.0 same.0.1)
          | inr more ↦ (more.1, subst (λ (t : List ℕ). HasPair first key t more.1) (sym is) more.2)
        ];
  }
    where
      pick : (b : Bool) → same_bytes key name ≡ b → IsSeenAt key all (option_or (cond b (Some (take (extent v) v)) None) so_far.seen) (cond b (Some value) old)
      pick true so = (subst (IsLeft all) (at_name ((bytes_decides key name).0 so)) so_far.ends, whole, refl)
      pick false so = so_far.is_at

  -- it is the first with the key
  pub search_first : first ≡ true → key ≡ name → IsPlaceIn (HasPair first key all) (short_field key) all v
  search_first is same = record {
    left = subst (IsLeft all) (at_name same) so_far.ends;
    meant = λ whole. so_far.all_by (Some (take (extent v) v)) (subst (λ (t : List ℕ). HasPair first key t (Some (take (extent v) v))) (sym (at_name same)) (first_here v is whole));
    only = λ w x. let (u, there) = so_far.left_by w x in (pair_split first key left name v u e there).whole;
  }

  -- it isn't all there
  pub search_cut : (IsHeaded v → ⊥) → (w : Option (List ℕ)) → HasPair first key all w → ⊥
  search_cut cut w x = let (u, there) = so_far.left_by w x in cut (pair_split first key left name v u e there).whole

-- no pair more
pub search_end : (first : Bool) (key all left : List ℕ) (at : Option (Bor (List ℕ))) → SearchedTo first key all left at → length left ≡ 0
    → MatchOption at (HasPair first key all None) (λ v. IsPlaceIn (HasPair first key all) (short_field key) all v.now)
search_end first key all left at so_far none =
    by so_far.seen at so_far.is_at (so_far.all_by None (subst (λ (t : List ℕ). HasPair first key t None) (sym (nil_from_length left none)) none_left))
  where
    by : (seen : Option (List ℕ)) (at : Option (Bor (List ℕ))) → IsSeenAt key all seen at → HasPair first key all seen → MatchOption at (HasPair first key all None) (λ v. IsPlaceIn (HasPair first key all) (short_field key) all v.now)
    by None None x has = has
    by (Some w) (Some v) (left, whole, is) has = record { left = left; meant = λ _. subst (λ (u : List ℕ). HasPair first key all (Some u)) is has; only = λ _ _. whole }
    by None (Some v) x has = absurd x
    by (Some w) None x has = absurd x

-- ---- values

pub nth_headed : (n : ℕ) (left : List ℕ) (w : Option (List ℕ)) → 0 < length left → HasNth n left w → IsHeaded left
nth_headed _ _ _ some (too_few n) = absurd (omega arith)
nth_headed _ _ _ some (here s whole) = whole
nth_headed _ _ _ some (later n s w whole rest) = whole

-- after a value
pub nth_after : (n : ℕ) (left after : List ℕ) (w : Option (List ℕ)) → 0 < n → 0 < length left → after ≡ drop (extent left) left → HasNth n left w → HasNth (n - 1) after w
nth_after _ _ after _ more some is (too_few n) = absurd (omega arith)
nth_after _ _ after _ more some is (here s whole) = absurd (omega arith)
nth_after _ _ after _ more some is (later n s w whole rest) =
    subst (λ (m : ℕ). HasNth m after w) (omega arith) (subst (λ (t : List ℕ). HasNth n t w) (sym is) rest)

-- and before it
pub nth_before : (n : ℕ) (left after : List ℕ) (w : Option (List ℕ)) → 0 < n → IsHeaded left → after ≡ drop (extent left) left → HasNth (n - 1) after w → HasNth n left w
nth_before n left after w more whole is rest =
    subst (λ (m : ℕ). HasNth m left w) (omega arith) (later (n - 1) left w whole (subst (λ (t : List ℕ). HasNth (n - 1) t w) is rest))

-- no value is before the one
pub nth_here : (n : ℕ) (left : List ℕ) → n ≡ 0 → IsHeaded left → HasNth n left (Some (take (extent left) left))
nth_here n left none whole = subst (λ (m : ℕ). HasNth m left (Some (take (extent left) left))) (sym none) (here left whole)

-- no byte
pub nth_none : (n : ℕ) (left : List ℕ) → length left ≡ 0 → HasNth n left None
nth_none n left none = subst (λ (t : List ℕ). HasNth n t None) (sym (nil_from_length left none)) (too_few n)

-- only one is meant
pub one_value : (n : ℕ) (s : List ℕ) (w u : Option (List ℕ)) → HasNth n s w → HasNth n s u → w ≡ u
one_value _ _ _ _ (too_few n) (too_few _) = refl
one_value _ _ _ _ (here s whole) (here _ _) = refl
one_value _ _ _ _ (later n s w whole rest) (later _ _ u _ other) = one_value n (drop (extent s) s) w u rest other
one_value _ _ _ _ (too_few n) (here s whole) = absurd (omega (arith, whole.0, whole.1))
one_value _ _ _ _ (too_few n) (later m s u whole rest) = absurd (omega (arith, whole.0, whole.1))
one_value _ _ _ _ (here s whole) (too_few n) = absurd (omega (arith, whole.0, whole.1))
one_value _ _ _ _ (later n s w whole rest) (too_few m) = absurd (omega (arith, whole.0, whole.1))

-- ---- in a body

-- the bytes of the encoding, if there is one
abbrev pub bytes_of : Option EncodedValue → Option (List ℕ)
bytes_of o = option_map (λ (e : EncodedValue). e.bytes) o

pub nth_has : (n : ℕ) (s : List ℕ) (vs : Trees) (p : ArrayBody s vs) → HasNth n s (bytes_of (nth_encoded n s vs p))
nth_has n _ _ no_values = too_few n
nth_has zero _ _ (a_value w rest v vs first others) =
    let x = headed w rest v first in
    subst (λ (u : List ℕ). HasNth 0 (w ++ rest) (Some u)) x.prefix (here (w ++ rest) x.whole)
nth_has (suc n) _ _ (a_value w rest v vs first others) =
    let x = headed w rest v first in
    let w_of = bytes_of (nth_encoded n rest vs others) in
    later n (w ++ rest) w_of x.whole (subst (λ (t : List ℕ). HasNth n t w_of) (sym x.after) (nth_has n rest vs others))

-- so what is found is where that encoding begins
pub begins : (Has : Option (List ℕ) → Type 0) (before s : List ℕ) (o : Option EncodedValue) (place : Option (Bor (List ℕ))) → ((w u : Option (List ℕ)) → Has w → Has u → w ≡ u) → Has (bytes_of o)
    → MatchOption place (Has None) (λ at. IsPlaceIn Has before s at.now) → BeginsWith o place
begins Has before s o None one has none = by o (one (bytes_of o) None has none)
  where
    by : (o : Option EncodedValue) → bytes_of o ≡ None → BeginsWith o None
    by None e = tt
    by (Some x) e = absurd cc
begins Has before s o (Some at) one has place = by o (one (bytes_of o) (Some (take (extent at.now) at.now)) has (place.meant (place.only (bytes_of o) has)))
  where
    by : (o : Option EncodedValue) → bytes_of o ≡ Some (take (extent at.now) at.now) → BeginsWith o (Some at)
    by None e = absurd cc
    by (Some x) e =
        let n = extent at.now in
        (drop n at.now, sym (take-append-drop n at.now) ∙ ap (λ (t : List ℕ). t ++ drop n at.now) (sym (same_Some x.bytes (take n at.now) e)))

pub place_left : (Has : Option (List ℕ) → Type 0) (before s : List ℕ) (place : Option (Bor (List ℕ))) → MatchOption place (Has None) (λ at. IsPlaceIn Has before s at.now) → IfSome place (λ at. IsLeft s at.now)
place_left Has before s None x = tt
place_left Has before s (Some at) x = left_of_left s (before ++ at.now) at.now x.left (before, refl)

-- what is of one or another encoding
or_bytes : (a : Option EncodedValue) (b : Bool) (e : EncodedValue) → option_or (bytes_of a) (cond b (Some e.bytes) None) ≡ bytes_of (option_or a (cond b (Some e) None))
or_bytes None true e = refl
or_bytes None false e = refl
or_bytes (Some x) b e = refl

pub last_has : (k s : List ℕ) (ps : Entries) (p : TableBody s ps) → HasPair false k s (bytes_of (last_encoded k s ps p))
last_has k _ _ no_pairs = none_left
last_has k _ _ (pair j w rest v ps key first others) =
    let x = headed w rest v first in
    let o = last_encoded k rest ps others in
    let u = bytes_of o in
    let there = one_more j (w ++ rest) u (λ e. absurd cc) x.whole (subst (λ (t : List ℕ). HasPair false k t u) (sym x.after) (last_has k rest ps others)) in
    subst (HasPair false k (short_field j ++ (w ++ rest)))
    (ap (λ (t : List ℕ). option_or u (cond (same_bytes k j) (Some t) None)) x.prefix ∙ or_bytes o (same_bytes k j) (record { bytes = w; meaning = v; is_wire = first })) there

pub first_has : (k s : List ℕ) (ps : Entries) (p : TableBody s ps) → HasPair true k s (bytes_of (first_encoded k s ps p))
first_has k _ _ no_pairs = none_left
first_has k _ _ (pair j w rest v ps key first others) = by (same_bytes k j) refl (first_encoded k rest ps others) (first_has k rest ps others)
  where
    by : (b : Bool) → same_bytes k j ≡ b → (o : Option EncodedValue) → HasPair true k rest (bytes_of o) → HasPair true k (short_field j ++ (w ++ rest)) (bytes_of (cond b (Some (record { bytes = w; meaning = v; is_wire = first })) o))
    by true so o has = let x = headed w rest v first in subst (λ (u : List ℕ). HasPair true k (short_field j ++ (w ++ rest)) (Some u)) x.prefix (named k j (w ++ rest) so x.whole)
    by false so o has = let x = headed w rest v first in passed k j (w ++ rest) (bytes_of o) so x.whole (subst (λ (t : List ℕ). HasPair true k t (bytes_of o)) (sym x.after) has)

pub pair_has : (of : EqualKeys) (k s : List ℕ) (ps : Entries) (p : TableBody s ps) → HasPair (is_first of) k s (bytes_of (encoded_of of k s ps p))
pair_has equal.First = first_has
pair_has equal.Last = last_has
