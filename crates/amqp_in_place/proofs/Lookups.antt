-- `get` of tables and arrays: what the loop of `nth_value` keeps (`IsAmongLeft`), and what the
-- encoding that is found means.
use Rattle.std.proofs.Common.{◌≡◌, ◌<◌, ◌↔◌, ℕ, zero, suc, Bool, true, false, cond, List, ◌++◌, length, Option, Some, None, option_map, refl, sym, ap, ◌∙◌, subst, arith, length-append}
use Rattle.std.proofs.Math.Logic.{∥∥₁_map}
use Rattle.std.specs.Option.{IfSome, option_or, is_some}
use Rattle.std.specs.Borrow.{Bor}
use Rattle.amqp_value_core.specs.Values.{Tree, octets, Trees, no_trees, tree, Entries, no_entries, entry}
use Rattle.amqp_value_core.specs.Maps.{same_bytes, last_at, value_at, has_key}
use Rattle.amqp_value_core.specs.Grammar.{ArrayBody, no_values, value, TableBody, no_pairs, pair}
use Rattle.amqp_value_core.proofs.GrammarLaws.{length-wire, key_has_value}
use Rattle.amqp_in_place.specs.Bodies.{HasEntries}
use Rattle.amqp_in_place.specs.declared.refs.ValueRef.{ValueRef}
use Rattle.amqp_in_place.specs.declared.path.EqualKeys.{EqualKeys}
use Rattle.amqp_in_place.specs.declared.path.EqualKeys.TheVariants as equal
use Rattle.amqp_in_place.specs.Lookups.{value_of_pair}
use Rattle.amqp_in_place.specs.Refs.{Denotes}
use Rattle.amqp_in_place.specs.InPlaceResults.{IsLeft}
use Rattle.amqp_in_place.specs.Places.{IsViewIn, IsViewWithin}
use Rattle.amqp_in_place.specs.Walks.{HasEncodingAtStart, IsValueThere, NextValueIs, BeginsWith, FoundBy, FoundIs, WrittenIs, ViewIs, ValueIs, tree_at}
use Rattle.amqp_in_place.specs.Written.{written, IsWrittenAs, values_written, pairs_written, WrittenValues, WrittenPairs}
use Rattle.amqp_in_place.specs.Encoded.{EncodedValue, StandsFor, IsViewOf, values_by, pairs_by, EncodedValues, EncodedPairs, nth_encoded, first_encoded, last_encoded, encoded_of}
use Rattle.amqp_in_place.proofs.Views.{stands}

-- ---- emptiness

-- no pairs are written in no bytes, and only there
pub no_pairs_at : (s : List ℕ) (ps : Entries) → TableBody s ps → (length s ≡ 0) ↔ (ps ≡ no_entries)
no_pairs_at _ _ no_pairs = (λ _. refl, λ _. refl)
no_pairs_at _ _ (pair k w left v ps is p all) = (λ e. absurd (omega arith), λ e. absurd cc)

-- and no values
pub no_values_at : (s : List ℕ) (vs : Trees) → ArrayBody s vs → (length s ≡ 0) ↔ (vs ≡ no_trees)
no_values_at _ _ no_values = (λ _. refl, λ _. refl)
no_values_at _ _ (value w left v vs p all) = (λ e. absurd (omega (arith, length-append w left, length-wire w v p)), λ e. absurd cc)

-- ---- what is found, by the encoding that is

-- a view, as a byte array; what is meant; and what is written
abbrev as_octets : EncodedValue → Tree
as_octets e = octets e.bytes

abbrev meant : EncodedValue → Tree
meant e = e.meaning

abbrev as_written : EncodedValue → Tree
as_written e = written e.bytes e.meaning e.is_wire

found_as : (Is : ValueRef → Tree → Type 0) (f : EncodedValue → Tree) → ((r : ValueRef) (e : EncodedValue) → StandsFor r e → Is r (f e)) → (o : Option EncodedValue) (r : Option ValueRef)
    → ValueIs o r → FoundBy Is (option_map f o) r
found_as Is f weaker None None x = tt
found_as Is f weaker (Some e) (Some r) x = weaker r e x
found_as Is f weaker None (Some r) x = absurd x
found_as Is f weaker (Some e) None x = absurd x

meaning_found : (o : Option EncodedValue) (r : Option ValueRef) → ValueIs o r → FoundIs (option_map meant o) r
meaning_found = found_as Denotes meant (λ r e x. x.denotes)

written_found : (o : Option EncodedValue) (r : Option ValueRef) → ValueIs o r → WrittenIs (option_map as_written o) r
written_found = found_as IsWrittenAs as_written (λ r e x. x.as_written)

view_found : (o : Option EncodedValue) (r : Option ValueRef) → ValueIs o r → ViewIs (option_map as_octets o) r
view_found = found_as IsViewOf as_octets (λ r e x. (e.bytes, x.view, refl))

meant_values : (s : List ℕ) (vs : Trees) (p : ArrayBody s vs) → values_by meant s vs p ≡ vs
meant_values _ _ no_values = refl
meant_values _ _ (value w rest v vs first others) = ap (tree v) (meant_values rest vs others)

written_values : (s : List ℕ) (vs : Trees) (p : ArrayBody s vs) → values_by as_written s vs p ≡ values_written s vs p
written_values _ _ no_values = refl
written_values _ _ (value w rest v vs first others) = ap (tree (written w v first)) (written_values rest vs others)

meant_pairs : (s : List ℕ) (ps : Entries) (p : TableBody s ps) → pairs_by meant s ps p ≡ ps
meant_pairs _ _ no_pairs = refl
meant_pairs _ _ (pair k w rest v ps key first others) = ap (entry k v) (meant_pairs rest ps others)

written_pairs : (s : List ℕ) (ps : Entries) (p : TableBody s ps) → pairs_by as_written s ps p ≡ pairs_written s ps p
written_pairs _ _ no_pairs = refl
written_pairs _ _ (pair k w rest v ps key first others) = ap (entry k (written w v first)) (written_pairs rest ps others)

-- ---- arrays

nth_by : (f : EncodedValue → Tree) (n : ℕ) (s : List ℕ) (vs : Trees) (p : ArrayBody s vs) → option_map f (nth_encoded n s vs p) ≡ tree_at n (values_by f s vs p)
nth_by f n _ _ no_values = refl
nth_by f zero _ _ (value w rest v vs first others) = refl
nth_by f (suc n) _ _ (value w rest v vs first others) = nth_by f n rest vs others

pub nth_meaning : (n : ℕ) (s : List ℕ) (vs : Trees) (p : ArrayBody s vs) → option_map meant (nth_encoded n s vs p) ≡ tree_at n vs
nth_meaning n s vs p = nth_by meant n s vs p ∙ ap (tree_at n) (meant_values s vs p)

-- the value of an encoding in an array is that value in each form
module _ (s t : List ℕ) (n : ℕ) (r : Option ValueRef) (at : t ≡ s) (there : (vs : Trees) (p : ArrayBody t vs) → ValueIs (nth_encoded n t vs p) r) where
  is : (vs : Trees) (p : ArrayBody s vs) → ValueIs (nth_encoded n s vs p) r
  is = subst (λ (u : List ℕ). (vs : Trees) (p : ArrayBody u vs) → ValueIs (nth_encoded n u vs p) r) at there

  pub nth_means : (vs : Trees) → ArrayBody s vs → FoundIs (tree_at n vs) r
  nth_means vs p = subst (λ (o : Option Tree). FoundIs o r) (nth_meaning n s vs p) (meaning_found _ r (is vs p))

  pub nth_is_written : (ts : Trees) → WrittenValues s ts → WrittenIs (tree_at n ts) r
  nth_is_written ts (vs, p, e) = subst (λ (o : Option Tree). WrittenIs o r) (nth_by as_written n s vs p ∙ ap (tree_at n) (written_values s vs p ∙ sym e)) (written_found _ r (is vs p))

  pub nth_is_view : (es : Trees) → EncodedValues s es → ViewIs (tree_at n es) r
  nth_is_view es (vs, p, e) = subst (λ (o : Option Tree). ViewIs o r) (nth_by as_octets n s vs p ∙ ap (tree_at n) (sym e)) (view_found _ r (is vs p))

-- what is asked for is among the values that are left
abbrev pub IsAmongLeft : ℕ → List ℕ → List ℕ → ℕ → Type 0
IsAmongLeft n s rest left = (vs : Trees) (p : ArrayBody s vs) → (us : Trees) × (q : ArrayBody rest us) × (nth_encoded n s vs p ≡ nth_encoded left rest us q)

pub among-start : (n : ℕ) (s : List ℕ) → IsAmongLeft n s s n
among-start n s = λ vs p. (vs, p, refl)

module _ (n : ℕ) (s rest : List ℕ) where
  pub among-step : (left : ℕ) (r : ValueRef) (after : List ℕ) → IsAmongLeft n s rest (suc left) → IsViewIn rest r after → length after < length rest → IsAmongLeft n s after left
  among-step left r after before inside less = λ vs p.
      let (us, q, e) = before vs p in
      by rest us q e inside less
    where
      by : {o : Option EncodedValue} (t : List ℕ) (us : Trees) (q : ArrayBody t us) → o ≡ nth_encoded (suc left) t us q → IsViewIn t r after → length after < length t
          → (os : Trees) × (q : ArrayBody after os) × (o ≡ nth_encoded left after os q)
      by _ _ no_values e inside less = absurd (omega (arith, less))
      by {o} _ _ (value w more v us first others) e inside less =
          let one = stands (w ++ more) after more r (record { bytes = w; meaning = v; is_wire = first }) inside refl in
          subst (λ (t : List ℕ). (os : Trees) × (q : ArrayBody t os) × (o ≡ nth_encoded left t os q)) one.1 (us, others, e)

  -- it is the first of them
  pub among-here : (r : ValueRef) (after : List ℕ) → IsAmongLeft n s rest 0 → IsViewIn rest r after → length after < length rest → (vs : Trees) (p : ArrayBody s vs) → ValueIs (nth_encoded n s vs p) (Some r)
  among-here r after before inside less vs p =
      let (us, q, e) = before vs p in
      subst (λ (o : Option EncodedValue). ValueIs o (Some r)) (sym e) (by rest us q inside less)
    where
      by : (t : List ℕ) (us : Trees) (q : ArrayBody t us) → IsViewIn t r after → length after < length t → ValueIs (nth_encoded 0 t us q) (Some r)
      by _ _ no_values inside less = absurd (omega (arith, less))
      by _ _ (value w more v us first others) inside less = (stands (w ++ more) after more r (record { bytes = w; meaning = v; is_wire = first }) inside refl).0

  -- or it isn't there
  pub among-end : (left : ℕ) → IsAmongLeft n s rest left → ((us : Trees) → ArrayBody rest us → NextValueIs us None) → (vs : Trees) (p : ArrayBody s vs) → ValueIs (nth_encoded n s vs p) None
  among-end left before next vs p =
      let (us, q, e) = before vs p in
      subst (λ (o : Option EncodedValue). ValueIs o None) (sym e) (by left rest us q (next us q))
    where
      by : (m : ℕ) (t : List ℕ) (us : Trees) (q : ArrayBody t us) → NextValueIs us None → ValueIs (nth_encoded m t us q) None
      by m _ _ no_values given = tt
      by m _ _ (value w more v us first others) given = absurd given

-- ---- tables

first_by : (f : EncodedValue → Tree) (k s : List ℕ) (ps : Entries) (p : TableBody s ps) → option_map f (first_encoded k s ps p) ≡ value_at k (pairs_by f s ps p)
first_by f k _ _ no_pairs = refl
first_by f k _ _ (pair j w rest v ps key first others) = by (first_encoded k rest ps others) (same_bytes k j) (first_by f k rest ps others)
  where
    by : {t : Option Tree} (o : Option EncodedValue) (b : Bool) → option_map f o ≡ t → option_map f (cond b (Some (record { bytes = w; meaning = v; is_wire = first })) o) ≡ cond b (Some (f (record { bytes = w; meaning = v; is_wire = first }))) t
    by o true e = refl
    by o false e = e

last_by : (f : EncodedValue → Tree) (k s : List ℕ) (ps : Entries) (p : TableBody s ps) → option_map f (last_encoded k s ps p) ≡ last_at k (pairs_by f s ps p)
last_by f k _ _ no_pairs = refl
last_by f k _ _ (pair j w rest v ps key first others) = by (last_encoded k rest ps others) (last_by f k rest ps others) (same_bytes k j)
  where
    by : {t : Option Tree} (o : Option EncodedValue) → option_map f o ≡ t → (b : Bool)
        → option_map f (option_or o (cond b (Some (record { bytes = w; meaning = v; is_wire = first })) None)) ≡ option_or t (cond b (Some (f (record { bytes = w; meaning = v; is_wire = first }))) None)
    by None e true = ap (λ (t : Option Tree). option_or t (Some (f (record { bytes = w; meaning = v; is_wire = first })))) e
    by None e false = ap (λ (t : Option Tree). option_or t None) e
    by (Some u) e b = ap (λ (t : Option Tree). option_or t (cond b (Some (f (record { bytes = w; meaning = v; is_wire = first }))) None)) e

pair_by : (of : EqualKeys) (f : EncodedValue → Tree) (k s : List ℕ) (ps : Entries) (p : TableBody s ps) → option_map f (encoded_of of k s ps p) ≡ value_of_pair of k (pairs_by f s ps p)
pair_by equal.First = first_by
pair_by equal.Last = last_by

pub pair_meaning : (of : EqualKeys) (k s : List ℕ) (ps : Entries) (p : TableBody s ps) → option_map meant (encoded_of of k s ps p) ≡ value_of_pair of k ps
pair_meaning of k s ps p = pair_by of meant k s ps p ∙ ap (value_of_pair of k) (meant_pairs s ps p)

module _ (of : EqualKeys) (s k : List ℕ) (r : Option ValueRef) (there : (ps : Entries) (p : TableBody s ps) → ValueIs (encoded_of of k s ps p) r) where
  pub pair_means : (ps : Entries) → TableBody s ps → FoundIs (value_of_pair of k ps) r
  pair_means ps p = subst (λ (o : Option Tree). FoundIs o r) (pair_meaning of k s ps p) (meaning_found _ r (there ps p))

  pub pair_is_written : (ts : Entries) → WrittenPairs s ts → WrittenIs (value_of_pair of k ts) r
  pair_is_written ts (ps, p, e) = subst (λ (o : Option Tree). WrittenIs o r) (pair_by of as_written k s ps p ∙ ap (value_of_pair of k) (written_pairs s ps p ∙ sym e)) (written_found _ r (there ps p))

  pub pair_is_view : (es : Entries) → EncodedPairs s es → ViewIs (value_of_pair of k es) r
  pair_is_view es (ps, p, e) = subst (λ (o : Option Tree). ViewIs o r) (pair_by of as_octets k s ps p ∙ ap (value_of_pair of k) (sym e)) (view_found _ r (there ps p))

-- what the entries mean at the key is the last pair's value
pub last_means : (s k : List ℕ) (r : Option ValueRef) → ((ps : Entries) → TableBody s ps → FoundIs (last_at k ps) r) → (es : Entries) → HasEntries s es → FoundIs (value_at k es) r
last_means s k r found es (ps, p, mean) = subst (λ (o : Option Tree). FoundIs o r) (sym (mean.last k)) (found ps p)

pub or_assoc : {A : Type 0} (a b c : Option A) → option_or (option_or a b) c ≡ option_or a (option_or b c)
or_assoc None b c = refl
or_assoc (Some x) b c = refl

pub or_none : {A : Type 0} (a : Option A) → option_or a None ≡ a
or_none None = refl
or_none (Some x) = refl

-- ---- the value where bytes begin

-- there is one
pub begins_there : (at : Option (Bor (List ℕ))) → ∥ ((o : Option EncodedValue) × BeginsWith o at) ∥₁ → IfSome at (λ bytes. ∥ HasEncodingAtStart bytes.now ∥₁)
begins_there None begins = tt
begins_there (Some at) begins = ∥∥₁_map begins (λ (x : (o : Option EncodedValue) × BeginsWith o (Some at)). by x.0 x.1)
  where
    by : (u : Option EncodedValue) → BeginsWith u (Some at) → HasEncodingAtStart at.now
    by None y = absurd y
    by (Some u) (rest, e) = record { value_there = u.meaning; bytes = u.bytes; left = rest; is_wire = u.is_wire; prefix = e }

-- and it is the encoding's
pub value_found : (o : Option EncodedValue) (at : Option (Bor (List ℕ))) (r : Option ValueRef) → BeginsWith o at → IsValueThere at r → ValueIs o r
value_found None None None begins x = tt
value_found (Some e) (Some at) (Some r) begins (rest, x) = (stands at.now rest begins.0 r e x begins.1).0
value_found None None (Some r) begins x = absurd x
value_found (Some e) (Some at) None begins x = absurd x
value_found None (Some at) r begins x = absurd begins
value_found (Some e) None r begins x = absurd begins

pub found_inside : (s : List ℕ) (at : Option (Bor (List ℕ))) (r : Option ValueRef) → IfSome at (λ bytes. IsLeft s bytes.now) → IsValueThere at r → IfSome r (IsViewWithin s)
found_inside s at None left x = tt
found_inside s None (Some r) left x = absurd x
found_inside s (Some at) (Some r) left (rest, x) = (left.0, at.now, rest, left.1, x)

-- whether the last pair with a key begins somewhere is whether the key is there
pub begins_has_key : (k s : List ℕ) (at : Option (Bor (List ℕ))) → ((ps : Entries) (p : TableBody s ps) → BeginsWith (last_encoded k s ps p) at) → (es : Entries) → HasEntries s es → is_some at ≡ has_key k es
begins_has_key k s at begins es (ps, p, mean) =
    by (last_encoded k s ps p) at (begins ps p) ∙ (ap is_some (last_by meant k s ps p ∙ (ap (last_at k) (meant_pairs s ps p) ∙ sym (mean.last k))) ∙ sym (key_has_value k es))
  where
    by : (o : Option EncodedValue) (at : Option (Bor (List ℕ))) → BeginsWith o at → is_some at ≡ is_some (option_map meant o)
    by None None begins = refl
    by (Some e) (Some at) begins = refl
    by None (Some at) begins = absurd begins
    by (Some e) None begins = absurd begins
