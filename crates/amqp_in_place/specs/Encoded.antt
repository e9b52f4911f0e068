-- `EncodedValue`, the bytes of a value and what they mean: the one at a position or a key of a
-- body, and whether a `ValueRef` refers to exactly its bytes.
use Rattle.std.specs.Prelude.{ℕ, zero, suc, ◌≡◌, Option, Some, None, List, [], if◌then◌else◌}
use Rattle.std.specs.Option.{option_or}
use Rattle.amqp_value_core.specs.Values.{Tree, octets, Trees, no_trees, tree, Entries, no_entries, entry}
use Rattle.amqp_value_core.specs.Maps.{same_bytes}
use Rattle.amqp_value_core.specs.Grammar.{Wire, ArrayBody, TableBody, no_values, value, no_pairs, pair}
use Rattle.amqp_in_place.specs.declared.path.EqualKeys.{EqualKeys}
use Rattle.amqp_in_place.specs.declared.path.EqualKeys.TheVariants as equal
use Rattle.amqp_in_place.specs.declared.refs.ValueRef.{ValueRef}
use Rattle.amqp_in_place.specs.Refs.{Denotes}
use Rattle.amqp_in_place.specs.Places.{IsViewIn}
use Rattle.amqp_in_place.specs.Written.{written, IsWrittenAs}

-- an encoding, and the value that it means
pub record EncodedValue : Type 0 where
  pub bytes : List ℕ
  pub meaning : Tree
  pub is_wire : Wire bytes meaning

-- what f is of each of the values in a body, and of those in its pairs
abbrev pub values_by : (EncodedValue → Tree) → (body : List ℕ) (vs : Trees) → ArrayBody body vs → Trees
values_by f _ _ no_values = no_trees
values_by f _ _ (value w rest v vs first others) = tree (f (record { bytes = w; meaning = v; is_wire = first })) (values_by f rest vs others)

abbrev pub pairs_by : (EncodedValue → Tree) → (body : List ℕ) (ps : Entries) → TableBody body ps → Entries
pairs_by f _ _ no_pairs = no_entries
pairs_by f _ _ (pair k w rest v ps key first others) = entry k (f (record { bytes = w; meaning = v; is_wire = first })) (pairs_by f rest ps others)

-- the written values, with each replaced by a byte array of its encoding's bytes
abbrev pub EncodedValues : List ℕ → Trees → Type 0
EncodedValues s es = (vs : Trees) × (p : ArrayBody s vs) × (es ≡ values_by (λ e. octets e.bytes) s vs p)

-- the written pairs, with each value replaced by a byte array of its encoding's bytes
abbrev pub EncodedPairs : List ℕ → Entries → Type 0
EncodedPairs s es = (ps : Entries) × (p : TableBody s ps) × (es ≡ pairs_by (λ e. octets e.bytes) s ps p)

-- e is a byte array of an encoding's bytes, and r refers to exactly that encoding: to all of its body if
-- it is a container's
abbrev pub IsViewOf : ValueRef → Tree → Type 0
IsViewOf r e = (w : List ℕ) × IsViewIn w r [] × (e ≡ octets w)

-- r is the value of an encoding: what it means, as it is written, and a view of its bytes
pub record StandsFor (r : ValueRef) (e : EncodedValue) : Type 0 where
  pub denotes : Denotes r e.meaning
  pub as_written : IsWrittenAs r (written e.bytes e.meaning e.is_wire)
  pub view : IsViewIn e.bytes r []

-- the encoding at a place of an array, counted from 0
abbrev pub nth_encoded : ℕ → (body : List ℕ) (vs : Trees) → ArrayBody body vs → Option EncodedValue
nth_encoded n _ _ no_values = None
nth_encoded zero _ _ (value w rest v vs first others) = Some (record { bytes = w; meaning = v; is_wire = first })
nth_encoded (suc n) _ _ (value w rest v vs first others) = nth_encoded n rest vs others

-- that of the first pair with a key, of the last, and of either
abbrev pub first_encoded : List ℕ → (body : List ℕ) (ps : Entries) → TableBody body ps → Option EncodedValue
first_encoded k _ _ no_pairs = None
first_encoded k _ _ (pair j w rest v ps key first others) = if same_bytes k j then Some (record { bytes = w; meaning = v; is_wire = first }) else first_encoded k rest ps others

abbrev pub last_encoded : List ℕ → (body : List ℕ) (ps : Entries) → TableBody body ps → Option EncodedValue
last_encoded k _ _ no_pairs = None
last_encoded k _ _ (pair j w rest v ps key first others) = option_or (last_encoded k rest ps others) (if same_bytes k j then Some (record { bytes = w; meaning = v; is_wire = first }) else None)

abbrev pub encoded_of : EqualKeys → List ℕ → (body : List ℕ) (ps : Entries) → TableBody body ps → Option EncodedValue
encoded_of equal.First = first_encoded
encoded_of equal.Last = last_encoded
