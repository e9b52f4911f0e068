-- The value that is read from an encoding, canonical or not, is the one that it encodes (`Wire`),
-- and as it is written, it has a JSON text (`HasJson`) and is the value (`valued`).
use Rattle.std.proofs.Common.{ℕ, List, ◌++◌, length, IsTrue, ◌≡◌, [], Some, sym, ap, ap₂, ◌∙◌, subst, append-nil, Bool, true, false, cond, refl}
use Rattle.std.specs.Int.{w32, to_be_bytes}
use Rattle.amqp_value_core.specs.declared.types.amqp_type.AMQPType.{AMQPType}
use Rattle.amqp_value_core.specs.Grammar.{short_field, Wire, wire, Raw, raw_fixed, raw_short, raw_long, raw_octets, raw_array, raw_table, ArrayBody, no_values, value, TableBody, no_pairs, pair}
use Rattle.amqp_value_core.specs.Bytes.{IsBytes}
use Rattle.amqp_value_core.specs.Values.{Tree, scalar, Trees, tree, Entries, entry, readable, short, array, table}
use Rattle.amqp_in_place.specs.Written.{written, raw_written, values_written, pairs_written}
use Rattle.amqp_value_core.proofs.Bytes.{bytes_before, bytes_after, byte_at}
use Rattle.amqp_value_core.proofs.GrammarLaws.{mean_put, what_is_read, raw_value, one_outcome, one_reading, prefix_within, wire_found, text_is_wire, wire_of}
use Rattle.amqp_json.specs.Written.{valued, all_valued, pairs_valued, HasJson, AllHaveJson, EntriesHaveJson}
use Rattle.amq_protocol_types.specs.declared.parsing.within.Limits.{Limits}
use Rattle.amqp_in_place.specs.Canonicals.{IsReadAsWritten}
use Rattle.amqp_value_core.specs.Texts.{text}
use Rattle.amqp_value_core.specs.InMemory.{IsValue}
use Rattle.amqp_value_core.specs.Outcomes.{Reading, found, Outcome, more, unknown, malformed, read_back, unread}
use Rattle.amqp_json.specs.Conversions.{IsEncodingWithin}
use Rattle.amqp_json.specs.Meaning.{meant_within, table_of}
use Rattle.amqp_json.specs.reading.Puts.{IsEncodedAsItComes}
use Rattle.amq_protocol_types.specs.parsing.Refusals.{Refusal}
use Rattle.amq_protocol_types.specs.parsing.ParseResults.{IsRefusal}
use Rattle.amqp_in_place.proofs.Refusals.{by_outcome}
use Rattle.amqp_json.specs.Views.{IsReadBack}

-- ---- the value of an encoding has a JSON text

mutual
  pub has_json : (w : List ℕ) (v : Tree) → IsBytes w → (p : Wire w v) → HasJson (written w v p)
  has_json _ _ bytes (wire c type b v k p) = raw_has type b v (what_is_read _ v (wire c type b v k p)).1 bytes.1 p

  raw_has : (type : AMQPType) (b : List ℕ) (v : Tree) → IsTrue (readable v) → IsBytes b → (p : Raw type b v) → HasJson (raw_written type b v p)
  raw_has _ _ _ reads bytes (raw_fixed type f b row len) = raw_value type b (scalar (f.denotes b)) bytes (raw_fixed type f b row len)
  raw_has _ _ _ reads bytes (raw_short s is) = absurd (cc reads)
  raw_has _ _ _ reads bytes (raw_long s fits) = byte_at s (bytes_after (to_be_bytes w32 (length s)) s bytes)
  raw_has _ _ _ reads bytes (raw_octets s fits) = byte_at s (bytes_after (to_be_bytes w32 (length s)) s bytes)
  raw_has _ _ _ reads bytes (raw_array body vs fits all) = body_has body vs (bytes_after (to_be_bytes w32 (length body)) body bytes) all
  raw_has _ _ _ reads bytes (raw_table body ps es fits all mean) = pairs_have body ps (bytes_after (to_be_bytes w32 (length body)) body bytes) all

  body_has : (body : List ℕ) (vs : Trees) → IsBytes body → (p : ArrayBody body vs) → AllHaveJson (values_written body vs p)
  body_has _ _ bytes no_values = tt
  body_has _ _ bytes (value w left v vs p all) = (has_json w v (bytes_before w left bytes) p, body_has left vs (bytes_after w left bytes) all)

  pairs_have : (body : List ℕ) (ps : Entries) → IsBytes body → (p : TableBody body ps) → EntriesHaveJson (pairs_written body ps p)
  pairs_have _ _ bytes no_pairs = tt
  pairs_have _ _ bytes (pair k w left v ps is p all) =
      let after = bytes_after (short_field k) (w ++ left) bytes in
      (is, has_json w v (bytes_before w left after) p, pairs_have left ps (bytes_after w left after) all)

-- ---- as it is written, it is the value

mutual
  pub valued_written : (w : List ℕ) (v : Tree) (p : Wire w v) → valued (written w v p) ≡ v
  valued_written _ _ (wire c type b v k p) = raw_valued type b v p

  raw_valued : (type : AMQPType) (b : List ℕ) (v : Tree) (p : Raw type b v) → valued (raw_written type b v p) ≡ v
  raw_valued _ _ _ (raw_fixed type f b row len) = refl
  raw_valued _ _ _ (raw_short s is) = refl
  raw_valued _ _ _ (raw_long s fits) = refl
  raw_valued _ _ _ (raw_octets s fits) = refl
  raw_valued _ _ _ (raw_array body vs fits all) = ap array (body_valued body vs all)
  raw_valued _ _ _ (raw_table body ps es fits all mean) = ap table_of (table_valued body ps all) ∙ ap table (sym (mean_put ps es mean))

  body_valued : (body : List ℕ) (vs : Trees) (p : ArrayBody body vs) → all_valued (values_written body vs p) ≡ vs
  body_valued _ _ no_values = refl
  body_valued _ _ (value w left v vs p all) = ap₂ tree (valued_written w v p) (body_valued left vs all)

  table_valued : (body : List ℕ) (ps : Entries) (p : TableBody body ps) → pairs_valued (pairs_written body ps p) ≡ ps
  table_valued _ _ no_pairs = refl
  table_valued _ _ (pair k w left v ps is p all) = ap₂ (entry k) (valued_written w v p) (table_valued left ps all)

-- ---- from an encoding to its value, and to the canonical encoding

abbrev pub pick : Tree → Reading → Tree
pick v (found u rest) = u
pick v _ = v

-- what is read from an encoding is the value that it is one of
pub same_value : (s rest : List ℕ) (v u : Tree) → Wire s v → Outcome s (found u rest) → v ≡ u
same_value s rest v u is o =
    let at = subst (λ (b : List ℕ). Outcome b (found v [])) (append-nil s) (wire_found s [] v is) in
    ap (pick v) (one_outcome s (found v []) (found u rest) at o)

-- an encoding that is what is written for the value that is read from it is the canonical one
pub as_written : (most : ℕ) (l : Limits) (t s b : List ℕ) → IsEncodedAsItComes most t s → b ≡ s → IsReadAsWritten l b → IsEncodingWithin most t s
as_written most l t s b (v, means, is) slice (u, within, same) =
    let f = prefix_within l.depth b [] u within.1 in
    let one = one_reading s f.0 [] [] v u is (wire_of l.depth f.0 u f.1) (append-nil s ∙ sym slice ∙ f.2) in
    (v, means, sym slice ∙ same ∙ ap text (sym one.1))

-- the canonical encoding of the value of an encoding is one too
pub encoded_again : (s out : List ℕ) (v u : Tree) → Wire s v → v ≡ u → IsValue u → out ≡ text u → Wire out v
encoded_again s out v u is same held e =
    let (fits, reads) = what_is_read s v is in
    subst (λ (b : List ℕ). Wire b v) (ap text same ∙ sym e) (text_is_wire v (subst IsValue (sym same) held) fits reads)

-- a text means one value
pub encodes_meant : (most : ℕ) (t s : List ℕ) (v : Tree) → IsEncodedAsItComes most t s → meant_within most t ≡ Some v → Wire s v
encodes_meant most t s v (u, means, is) other =
    let both : Some u ≡ Some v = sym means ∙ other in
    let same : u ≡ v = cc in
    subst (Wire s) same is

-- ---- a canonical encoding that is read again

no_value : (v : Tree) (u : Tree) (rest : List ℕ) → unread v ≡ found u rest → ⊥
no_value (short s) u rest e = absurd (cc e)
no_value _ u rest e = absurd (cc e)

by : (b : Bool) (v u : Tree) (rest : List ℕ) → cond b (found v []) (unread v) ≡ found u rest → v ≡ u
by true v u rest e = ap (pick v) e
by false v u rest e = absurd (no_value v u rest e)

here : (v : Tree) → IsReadBack v → Outcome (text v) (read_back v [])
here v back = subst (λ s. Outcome s (read_back v [])) (append-nil (text v)) (back [])

-- what is read from the canonical encoding of a value is that value
pub same_again : (v u : Tree) (rest : List ℕ) → IsReadBack v → Outcome (text v) (found u rest) → v ≡ u
same_again v u rest back o = by (readable v) v u rest (one_outcome (text v) (read_back v []) (found u rest) (here v back) o)

is_found : (b : Bool) (v : Tree) (o : Reading) → b ≡ true → cond b (found v []) (unread v) ≡ o → found v [] ≡ o
is_found true v o t e = e
is_found false v o t e = absurd (cc t)

refused : (v : Tree) (o : Reading) (b : Bool) → readable v ≡ b → IsReadBack v → Outcome (text v) o → (o ≡ found v [] → ⊥) → b ≡ false
refused v o false is back at other = refl
refused v o true is back at other =
    let same = one_outcome (text v) (read_back v []) o (here v back) at in
    absurd (other (sym (is_found (readable v) v o is same)))

-- if no value is read from v's canonical encoding, v isn't readable
pub not_again : (v : Tree) (e : Refusal) → IsReadBack v → IsRefusal (Outcome (text v)) ⊥ e → readable v ≡ false
not_again v e back h =
    by_outcome (λ (e : Refusal). readable v ≡ false) (Outcome (text v)) ⊥ (λ n y. refused v (more n) (readable v) refl back y (λ e. absurd (cc e)))
    (λ y. refused v unknown (readable v) refl back y (λ e. absurd (cc e))) (λ y. refused v malformed (readable v) refl back y (λ e. absurd (cc e)))
    (λ k h. absurd h) e h
