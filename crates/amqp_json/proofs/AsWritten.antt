-- An encoding is written in one way (`written_once`). `IsWrittenAs`, value by value and pair by pair, for the loops of `printing::walk`; of a view of what was read
-- (`read_as`), and of one of a canonical encoding, which is written as its value (`canonical_again`).
use Rattle.std.proofs.Common.{◌≡◌, ◌<◌, ℕ, List, [], ◌∷◌, ◌++◌, length, drop, Some, None, refl, sym, ap, ap₂, ◌∙◌, subst, append-nil, arith}
use Rattle.std.proofs.lemmas.List.{append_cancel_left}
use Rattle.std.specs.Borrow.{Bor}
use Rattle.amqp_value_core.specs.declared.types.amqp_type.AMQPType.TheVariants as amqp
use Rattle.amqp_value_core.specs.declared.types.amqp_type.AMQPType.{AMQPType}
use Rattle.amqp_value_core.specs.Bytes.{IsBytes}
use Rattle.amqp_value_core.specs.Canonical.{Canon, canon, CanonRaw, canon_fixed, canon_long, canon_octets, canon_array, canon_table, CanonBody, canon_no_values, canon_value, CanonPairs, canon_no_pairs, canon_pair}
use Rattle.amqp_value_core.specs.Grammar.{long_field, Wire, wire, Raw, raw_fixed, raw_short, raw_long, raw_octets, raw_array, raw_table, ArrayBody, no_values, value, TableBody, no_pairs, pair}
use Rattle.amqp_value_core.specs.Layouts.{Layout}
use Rattle.amqp_value_core.specs.Outcomes.{Outcome, found}
use Rattle.amqp_value_core.specs.Texts.{text}
use Rattle.amqp_value_core.specs.Values.{Tree, scalar, long, octets, array, table, Trees, no_trees, tree, Entries, no_entries, entry}
use Rattle.amqp_value_core.proofs.Bytes.{bytes_before}
use Rattle.amqp_value_core.proofs.GrammarLaws.{no_empty_wire, same_large, one_key, one_reading, canon_rises, rising_mean, text_is_canon, what_is_read, read_is_value, found_prefix, prefix_within, wire_of}
use Rattle.amq_protocol_types.specs.declared.parsing.within.Limits.{Limits}
use Rattle.amq_protocol_types.specs.parsing.Limits.{Within}
use Rattle.amqp_in_place.specs.declared.refs.ValueRef.{ValueRef}
use Rattle.amqp_in_place.specs.declared.refs.ValueRef.TheVariants as at
use Rattle.amqp_in_place.specs.Encoded.{EncodedValue, StandsFor}
use Rattle.amqp_in_place.specs.Places.{IsFramed, IsViewIn, IsPairViewIn}
use Rattle.amqp_in_place.specs.Refs.{array_body, table_body, Denotes}
use Rattle.amqp_in_place.specs.Walks.{ValueStep, PairStep}
use Rattle.amqp_in_place.specs.Written.{written, raw_written, values_written, pairs_written, WrittenValues, WrittenPairs, IsWrittenAs}
use Rattle.amqp_in_place.proofs.Lookups.{value_found}
use Rattle.amqp_json.specs.Views.{IsViewOfRead, IsReadBack}
use Rattle.amqp_json.specs.Written.{HasJson, valued}
use Rattle.amqp_json.proofs.Encodings.{has_json, valued_written, same_again}

-- ---- a view of the start of some bytes

framed_rest : (type : AMQPType) (b body left rest : List ℕ) → IsFramed type b body [] → IsFramed type (b ++ left) body rest → left ≡ rest
framed_rest type b body left rest (c, k, few, e) (d, j, few2, f) =
    let field = long_field body in
    let both : c ∷ (field ++ left) ≡ d ∷ (field ++ rest) = ap (λ l. c ∷ (l ++ left)) (sym (append-nil field)) ∙ (ap (λ l. l ++ left) (sym e) ∙ f) in
    append_cancel_left field left rest (ap (drop 1) both)

view_rest : (r : ValueRef) (b left rest : List ℕ) → IsViewIn b r [] → IsViewIn (b ++ left) r rest → left ≡ rest
view_rest (at.LongString s) b left rest x y = framed_rest amqp.LongString b s.now left rest x y
view_rest (at.ByteArray s) b left rest x y = framed_rest amqp.ByteArray b s.now left rest x y
view_rest (at.FieldArray a) b left rest x y = framed_rest amqp.FieldArray b (array_body a) left rest x y
view_rest (at.FieldTable t) b left rest x y = framed_rest amqp.FieldTable b (table_body t) left rest x y
view_rest _ b left rest (w, p, e) (u, q, f) = (one_reading w u left rest _ _ p q (ap (λ l. l ++ left) (sym (append-nil w) ∙ sym e) ∙ f)).2

-- it has the meaning, the written form and the bytes of the encoding that is there
stands : (s rest left : List ℕ) (r : ValueRef) (u : EncodedValue) → IsViewIn s r rest → s ≡ u.bytes ++ left → StandsFor r u × (left ≡ rest)
stands s rest left r u x e =
    let b : Bor (List ℕ) = record { ref_ptr = (0, 0); now = s } in
    let is : StandsFor r u = value_found (Some u) (Some b) (Some r) (left, e) (rest, x) in
    (is, view_rest r u.bytes left rest is.view (subst (λ (t : List ℕ). IsViewIn t r rest) e x))

-- ---- in a body

-- the first of some values, as it is written
abbrev pub ValueWritten : Trees → ValueRef → List ℕ → Type 0
ValueWritten no_trees r rest = ⊥
ValueWritten (tree t ts) r rest = IsWrittenAs r t × WrittenValues rest ts

pub value_written : (s : List ℕ) (r : ValueRef) (rest : List ℕ) → IsViewIn s r rest → length rest < length s → (ts : Trees) → WrittenValues s ts → ValueWritten ts r rest
value_written s r rest inside less ts (vs, p, same) = subst (λ (us : Trees). ValueWritten us r rest) (sym same) (by s vs p inside less)
  where
    by : (s : List ℕ) (vs : Trees) (p : ArrayBody s vs) → IsViewIn s r rest → length rest < length s → ValueWritten (values_written s vs p) r rest
    by _ _ no_values x less = absurd (omega (arith, less))
    by _ _ (value w left v vs first others) x less =
        let one = stands (w ++ left) rest left r (record { bytes = w; meaning = v; is_wire = first }) x refl in
        let ts = values_written left vs others in
        (one.0.as_written, subst (λ (t : List ℕ). WrittenValues t ts) one.1 (vs, others, refl))

pub values_over : (s left : List ℕ) (ts : Trees) → WrittenValues s ts → ((vs : Trees) → ArrayBody s vs → ValueStep vs None left) → ts ≡ no_trees
values_over s left ts (vs, p, same) step = same ∙ by s vs p (step vs p)
  where
    by : (s : List ℕ) (vs : Trees) (p : ArrayBody s vs) → ValueStep vs None left → values_written s vs p ≡ no_trees
    by _ _ no_values over = refl
    by _ _ (value w more v vs first others) over = absurd over

-- the first of some pairs, as it is written
abbrev pub PairWritten : Entries → Bor (List ℕ) × ValueRef → List ℕ → Type 0
PairWritten no_entries x rest = ⊥
PairWritten (entry k t ps) x rest = (x.0.now ≡ k) × IsWrittenAs x.1 t × WrittenPairs rest ps

pub pair_written : (s : List ℕ) (x : Bor (List ℕ) × ValueRef) (rest : List ℕ) → IsPairViewIn s x.0.now x.1 rest → (ps : Entries) → WrittenPairs s ps → PairWritten ps x rest
pair_written s x rest inside ps (es, p, same) = subst (λ (qs : Entries). PairWritten qs x rest) (sym same) (by s es p inside)
  where
    by : (s : List ℕ) (es : Entries) (p : TableBody s es) → IsPairViewIn s x.0.now x.1 rest → PairWritten (pairs_written s es p) x rest
    by _ _ no_pairs (after, e, y) = absurd cc
    by _ _ (pair k w left v es is first others) (after, e, y) =
        let key = one_key k x.0.now (w ++ left) after e in
        let one = stands after rest left x.1 (record { bytes = w; meaning = v; is_wire = first }) y (sym key.1) in
        let ts = pairs_written left es others in
        (sym key.0, one.0.as_written, subst (λ (t : List ℕ). WrittenPairs t ts) one.1 (es, others, refl))

pub pairs_over : (s left : List ℕ) (ps : Entries) → WrittenPairs s ps → ((es : Entries) → TableBody s es → PairStep es None left) → ps ≡ no_entries
pairs_over s left ps (es, p, same) step = same ∙ by s es p (step es p)
  where
    by : (s : List ℕ) (es : Entries) (p : TableBody s es) → PairStep es None left → pairs_written s es p ≡ no_entries
    by _ _ no_pairs over = refl
    by _ _ (pair k w more v es is first others) over = absurd over

-- ---- an encoding is written in one way

mutual
  raw_written_once : (type : AMQPType) (b c : List ℕ) (v u : Tree) (p : Raw type b v) (q : Raw type c u) → b ≡ c → raw_written type b v p ≡ raw_written type c u q
  raw_written_once _ _ _ _ _ (raw_fixed type f b row len) (raw_fixed type2 g c row2 len2) e =
      let same : f ≡ g = cc in
      ap₂ (λ (h : Layout) (t : List ℕ). scalar (h.denotes t)) same e
  raw_written_once _ _ _ _ _ (raw_fixed type f b row len) _ e = absurd cc
  raw_written_once _ _ _ _ _ _ (raw_fixed type f c row len) e = absurd cc
  raw_written_once _ _ _ _ _ (raw_short s is) (raw_short t is2) e = cc
  raw_written_once _ _ _ _ _ (raw_long s fits) (raw_long t fits2) e = ap long (same_large s t e)
  raw_written_once _ _ _ _ _ (raw_octets s fits) (raw_octets t fits2) e = ap octets (same_large s t e)
  raw_written_once _ _ _ _ _ (raw_array body vs fits all) (raw_array body2 us fits2 all2) e =
      ap array (values_written_once body body2 vs us all all2 (same_large body body2 e))
  raw_written_once _ _ _ _ _ (raw_table body ps es fits all mean) (raw_table body2 qs es2 fits2 all2 mean2) e =
      ap table (pairs_written_once body body2 ps qs all all2 (same_large body body2 e))

  pub written_once : (w u : List ℕ) (v z : Tree) (p : Wire w v) (q : Wire u z) → w ≡ u → written w v p ≡ written u z q
  written_once _ _ _ _ (wire c type b v k p) (wire d type2 b2 z k2 q) e =
      let same : type ≡ type2 = cc in
      subst (λ (t : AMQPType). (r : Raw t b2 z) → raw_written type b v p ≡ raw_written t b2 z r) same (λ r. raw_written_once type b b2 v z p r (cc)) q

  values_written_once : (b c : List ℕ) (vs us : Trees) (p : ArrayBody b vs) (q : ArrayBody c us) → b ≡ c → values_written b vs p ≡ values_written c us q
  values_written_once _ _ _ _ no_values no_values e = refl
  values_written_once _ _ _ _ no_values (value w left v us p all) e = absurd (no_empty_wire w left v p (sym e))
  values_written_once _ _ _ _ (value w left v vs p all) no_values e = absurd (no_empty_wire w left v p e)
  values_written_once _ _ _ _ (value w left v vs p all) (value w2 left2 v2 us p2 all2) e =
      let same = one_reading w w2 left left2 v v2 p p2 e in
      ap₂ tree (written_once w w2 v v2 p p2 same.0) (values_written_once left left2 vs us all all2 same.2)

  pairs_written_once : (b c : List ℕ) (ps qs : Entries) (p : TableBody b ps) (q : TableBody c qs) → b ≡ c → pairs_written b ps p ≡ pairs_written c qs q
  pairs_written_once _ _ _ _ no_pairs no_pairs e = refl
  pairs_written_once _ _ _ _ no_pairs (pair k w left v qs is p all) e = absurd cc
  pairs_written_once _ _ _ _ (pair k w left v ps is p all) no_pairs e = absurd cc
  pairs_written_once _ _ _ _ (pair k w left v ps is p all) (pair k2 w2 left2 v2 qs is2 p2 all2) e =
      let key = one_key k k2 (w ++ left) (w2 ++ left2) e in
      let same = one_reading w w2 left left2 v v2 p p2 key.1 in
      ap (λ (j : List ℕ). entry j (written w v p) (pairs_written left ps all)) key.0
      ∙ ap₂ (entry k2) (written_once w w2 v v2 p p2 same.0) (pairs_written_once left left2 ps qs all all2 same.2)

-- ---- what was read

-- the encoding that a value was read from is what the view refers to, as it is written
abbrev pub IsReadAs : Limits → List ℕ → ValueRef → List ℕ → Type 0
IsReadAs l s view rest = (w : List ℕ) × (v : Tree) × (p : Wire w v) × (s ≡ w ++ rest) × Within l s (found v rest) × IsWrittenAs view (written w v p) × HasJson (written w v p)

pub read_as : (l : Limits) (s rest : List ℕ) (view : ValueRef) → IsViewOfRead l s view rest → IsReadAs l s view rest
read_as l s rest view (bytes, inside, (v, denotes, within)) =
    let (w, is, split) = prefix_within l.depth s rest v within.1 in
    let p = wire_of l.depth w v is in
    (w, v, p, split, within, (stands s rest rest view (record { bytes = w; meaning = v; is_wire = p }) inside split).0.as_written, has_json w v (bytes_before w rest (subst IsBytes split bytes)) p)

-- ---- a canonical encoding is written as its value

mutual
  canon_written : (w : List ℕ) (v : Tree) → Canon w v → (p : Wire w v) × (written w v p ≡ v)
  canon_written _ _ (canon c type b v k not_U not_L raw) = let (p, same) = raw_canon type b v raw in (wire c type b v k p, same)

  raw_canon : (type : AMQPType) (b : List ℕ) (v : Tree) → CanonRaw type b v → (p : Raw type b v) × (raw_written type b v p ≡ v)
  raw_canon _ _ _ (canon_fixed type f b row len strict) = (raw_fixed type f b row len, refl)
  raw_canon _ _ _ (canon_long s fits) = (raw_long s fits, refl)
  raw_canon _ _ _ (canon_octets s fits) = (raw_octets s fits, refl)
  raw_canon _ _ _ (canon_array body vs fits all) = let (p, same) = body_canon body vs all in (raw_array body vs fits p, ap array same)
  raw_canon _ _ _ (canon_table body es fits all) = let (p, same) = pairs_canon body es all in (raw_table body es es fits p (rising_mean es (canon_rises body es all)), ap table same)

  body_canon : (body : List ℕ) (vs : Trees) → CanonBody body vs → (p : ArrayBody body vs) × (values_written body vs p ≡ vs)
  body_canon _ _ canon_no_values = (no_values, refl)
  body_canon _ _ (canon_value w rest v vs first others) =
      let (p, same) = canon_written w v first in
      let (q, more) = body_canon rest vs others in
      (value w rest v vs p q, ap₂ tree same more)

  pairs_canon : (body : List ℕ) (es : Entries) → CanonPairs body es → (p : TableBody body es) × (pairs_written body es p ≡ es)
  pairs_canon _ _ canon_no_pairs = (no_pairs, refl)
  pairs_canon _ _ (canon_pair k w rest v es key first before others) =
      let (p, same) = canon_written w v first in
      let (q, more) = pairs_canon rest es others in
      (pair k w rest v es key p q, ap₂ (entry k) same more)

-- a view of bytes that are the canonical encoding of v refers to v, as it is written
pub canonical_again : (s rest : List ℕ) (view : ValueRef) (v : Tree) → IsBytes s → s ≡ text v → IsReadBack v → ((u : Tree) × Denotes view u × Outcome s (found u rest)) → IsViewIn s view rest → IsWrittenAs view v × HasJson v × (valued v ≡ v)
canonical_again s rest view v bytes e back (u, denotes, o) inside =
    let one = same_again v u rest back (subst (λ (b : List ℕ). Outcome b (found u rest)) e o) in
    let (w, is, split) = found_prefix s rest v (subst (λ (t : Tree). Outcome s (found t rest)) (sym one) o) in
    let reads = what_is_read w v is in
    let (p, same) = canon_written (text v) v (text_is_canon v (read_is_value w v (bytes_before w rest (subst IsBytes split bytes)) is) reads.0 reads.1) in
    let all : IsBytes (text v) = subst IsBytes e bytes in
    let its = stands s rest [] view (record { bytes = text v; meaning = v; is_wire = p }) inside (e ∙ sym (append-nil (text v))) in
    (subst (IsWrittenAs view) same its.0.as_written, subst HasJson same (has_json (text v) v all p), subst (λ (t : Tree). valued t ≡ v) same (valued_written (text v) v p))
