-- `stands`: a view of the start of some bytes has the meaning, the written form and the bytes of
-- the encoding that is there.
use Rattle.std.proofs.Common.{◌≡◌, ◌<◌, ◌^◌, ℕ, List, [], ◌∷◌, ◌++◌, length, drop, get_or, Some, refl, sym, ap, ◌∙◌, subst, append-nil}
use Rattle.std.proofs.lemmas.List.{append_cancel_right}
use Rattle.std.proofs.lemmas.Option.{same_Some}
use Rattle.amqp_value_core.specs.declared.types.amqp_type.AMQPType.{AMQPType}
use Rattle.amqp_value_core.specs.declared.types.amqp_type.AMQPType.TheVariants as amqp
use Rattle.amqp_value_core.specs.Ids.{kind}
use Rattle.amqp_value_core.specs.Values.{Tree, array, table, long, octets}
use Rattle.amqp_value_core.specs.Layouts.{fixed}
use Rattle.amqp_value_core.specs.Grammar.{long_field, Wire, wire, Raw, raw_fixed, raw_short, raw_long, raw_octets, raw_array, raw_table, ArrayBody, TableBody}
use Rattle.amqp_value_core.proofs.GrammarLaws.{one_large, one_reading}
use Rattle.amqp_in_place.specs.declared.refs.ArrayRef.{ArrayRef}
use Rattle.amqp_in_place.specs.declared.refs.TableRef.{TableRef}
use Rattle.amqp_in_place.specs.declared.refs.ValueRef.{ValueRef}
use Rattle.amqp_in_place.specs.declared.refs.ValueRef.TheVariants as at
use Rattle.amqp_in_place.specs.Refs.{array_body, table_body, plain_tree, Denotes}
use Rattle.amqp_in_place.specs.Heads.{IsPlainRef}
use Rattle.amqp_in_place.specs.Places.{IsViewIn}
use Rattle.amqp_in_place.specs.Written.{written, raw_written, values_written, pairs_written, WrittenValues, WrittenPairs, IsWrittenAs}
use Rattle.amqp_in_place.specs.Encoded.{EncodedValue, StandsFor}
use Rattle.amqp_in_place.proofs.HeadLemmas.{plain_stands}
use Rattle.amqp_in_place.proofs.Places.{view_parts}

-- ---- values that are no containers

plain_wire : (r : ValueRef) → IsPlainRef r → (s rest : List ℕ) → IsViewIn s r rest → (w : List ℕ) × Wire w (plain_tree r) × (s ≡ w ++ rest)
plain_wire (at.FieldArray a) plain s rest x = absurd plain
plain_wire (at.FieldTable t) plain s rest x = absurd plain
plain_wire (at.LongString b) plain s rest x = (x.0 ∷ long_field b.now, wire x.0 amqp.LongString (long_field b.now) (long b.now) x.1 (raw_long b.now x.2), x.3)
plain_wire (at.ByteArray b) plain s rest x = (x.0 ∷ long_field b.now, wire x.0 amqp.ByteArray (long_field b.now) (octets b.now) x.1 (raw_octets b.now x.2), x.3)
plain_wire r plain s rest x = x

-- a tree that is no container's is written as it is
abbrev IsNoContainer : Tree → Type 0
IsNoContainer (array vs) = ⊥
IsNoContainer (table es) = ⊥
IsNoContainer _ = Unit {0}

raw_as_it_is : (type : AMQPType) (b : List ℕ) (v : Tree) (p : Raw type b v) → IsNoContainer v → raw_written type b v p ≡ v
raw_as_it_is _ _ _ (raw_fixed type f b row len) x = refl
raw_as_it_is _ _ _ (raw_short s is) x = refl
raw_as_it_is _ _ _ (raw_long s fits) x = refl
raw_as_it_is _ _ _ (raw_octets s fits) x = refl
raw_as_it_is _ _ _ (raw_array body vs fits all) x = absurd x
raw_as_it_is _ _ _ (raw_table body ps es fits all mean) x = absurd x

as_it_is : (w : List ℕ) (v : Tree) (p : Wire w v) → IsNoContainer v → written w v p ≡ v
as_it_is _ _ (wire c type b v k raw) x = raw_as_it_is type b v raw x

no_container : (r : ValueRef) → IsPlainRef r → IsNoContainer (plain_tree r)
no_container (at.FieldArray a) plain = absurd plain
no_container (at.FieldTable t) plain = absurd plain
no_container _ plain = tt

plain_written : (r : ValueRef) (t : Tree) → IsPlainRef r → t ≡ plain_tree r → IsWrittenAs r t
plain_written (at.FieldArray a) t plain e = absurd plain
plain_written (at.FieldTable b) t plain e = absurd plain
plain_written _ t plain e = e

-- ---- containers

array_raw : (type : AMQPType) (b : List ℕ) (v : Tree) (p : Raw type b v) → type ≡ amqp.FieldArray → (a : ArrayRef) (left rest : List ℕ) → length (array_body a) < 2 ^ 32
    → b ++ left ≡ long_field (array_body a) ++ rest → Denotes (at.FieldArray a) v × IsWrittenAs (at.FieldArray a) (raw_written type b v p) × (left ≡ rest)
array_raw _ _ _ (raw_fixed type f b row len) is a left rest few e = absurd (let none = ap fixed (sym is) ∙ row in cc)
array_raw _ _ _ (raw_short s short) is a left rest few e = absurd cc
array_raw _ _ _ (raw_long s fits) is a left rest few e = absurd cc
array_raw _ _ _ (raw_octets s fits) is a left rest few e = absurd cc
array_raw _ _ _ (raw_array s vs fits all) is a left rest few e =
    let one = one_large s (array_body a) left rest fits few e in
    let ts = values_written s vs all in
    ((vs, subst (λ (t : List ℕ). ArrayBody t vs) one.0 all, refl), (ts, subst (λ (t : List ℕ). WrittenValues t ts) one.0 (vs, all, refl), refl), one.1)
array_raw _ _ _ (raw_table s ps es fits all mean) is a left rest few e = absurd cc

table_raw : (type : AMQPType) (b : List ℕ) (v : Tree) (p : Raw type b v) → type ≡ amqp.FieldTable → (t : TableRef) (left rest : List ℕ) → length (table_body t) < 2 ^ 32
    → b ++ left ≡ long_field (table_body t) ++ rest → Denotes (at.FieldTable t) v × IsWrittenAs (at.FieldTable t) (raw_written type b v p) × (left ≡ rest)
table_raw _ _ _ (raw_fixed type f b row len) is t left rest few e = absurd (let none = ap fixed (sym is) ∙ row in cc)
table_raw _ _ _ (raw_short s short) is t left rest few e = absurd cc
table_raw _ _ _ (raw_long s fits) is t left rest few e = absurd cc
table_raw _ _ _ (raw_octets s fits) is t left rest few e = absurd cc
table_raw _ _ _ (raw_array s vs fits all) is t left rest few e = absurd cc
table_raw _ _ _ (raw_table s ps es fits all mean) is t left rest few e =
    let one = one_large s (table_body t) left rest fits few e in
    let ts = pairs_written s ps all in
    ((es, (ps, subst (λ (u : List ℕ). TableBody u ps) one.0 all, mean), refl), (ts, subst (λ (u : List ℕ). WrittenPairs u ts) one.0 (ps, all, refl), refl), one.1)

-- a type tag and what is after it
tagged_as : (c d : ℕ) (type other : AMQPType) (x y : List ℕ) → kind c ≡ Some type → kind d ≡ Some other → c ∷ x ≡ d ∷ y → (type ≡ other) × (x ≡ y)
tagged_as c d type other x y k j e =
    let tag : c ≡ d = ap (λ (u : List ℕ). get_or u 0 0) e in
    (same_Some type other (sym k ∙ (ap kind tag ∙ j)), ap (drop 1) e)

-- ---- all of them

-- what is before the rest is the value's encoding, all of it
whole : (w left : List ℕ) (r : ValueRef) → IsViewIn (w ++ left) r left → IsViewIn w r []
whole w left r x =
    let (u, e, view) = view_parts (w ++ left) r left x in
    subst (λ (t : List ℕ). IsViewIn t r []) (append-nil u ∙ sym (append_cancel_right w u left e)) (view [])

-- the value at the start of s stands for the encoding there, and the rest is what is after that
pub stands : (s rest left : List ℕ) (r : ValueRef) (u : EncodedValue) → IsViewIn s r rest → s ≡ u.bytes ++ left → StandsFor r u × (left ≡ rest)
stands s rest left r u x e =
    let m = by r u.bytes u.meaning u.is_wire x e in
    let here : IsViewIn (u.bytes ++ left) r left = subst (λ (t : List ℕ). IsViewIn t r left) e (subst (λ (t : List ℕ). IsViewIn s r t) (sym m.2) x) in
    (record { denotes = m.0; as_written = m.1; view = whole u.bytes left r here }, m.2)
  where
    plain : (r : ValueRef) → IsPlainRef r → (w : List ℕ) (v : Tree) (p : Wire w v) → IsViewIn s r rest → s ≡ w ++ left → Denotes r v × IsWrittenAs r (written w v p) × (left ≡ rest)
    plain r is w v p x e =
        let f = plain_wire r is s rest x in
        let one = one_reading f.0 w rest left (plain_tree r) v f.1 p (sym f.2 ∙ e) in
        (subst (Denotes r) one.1 (plain_stands r is), plain_written r (written w v p) is (as_it_is w v p (subst IsNoContainer one.1 (no_container r is)) ∙ sym one.1), sym one.2)

    by : (r : ValueRef) (w : List ℕ) (v : Tree) (p : Wire w v) → IsViewIn s r rest → s ≡ w ++ left → Denotes r v × IsWrittenAs r (written w v p) × (left ≡ rest)
    by (at.FieldArray a) _ _ (wire c type b v k raw) (d, j, few, f) e =
        let same = tagged_as c d type amqp.FieldArray (b ++ left) (long_field (array_body a) ++ rest) k j (sym e ∙ f) in
        array_raw type b v raw same.0 a left rest few same.1
    by (at.FieldTable t) _ _ (wire c type b v k raw) (d, j, few, f) e =
        let same = tagged_as c d type amqp.FieldTable (b ++ left) (long_field (table_body t) ++ rest) k j (sym e ∙ f) in
        table_raw type b v raw same.0 t left rest few same.1
    by r w v p x e = plain r tt w v p x e
