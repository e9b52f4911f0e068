-- Lemmas for `gen_value` and the generators of containers: what was written is read back, and a
-- value that was read fits the capacity that its encoding took.
use Rattle.std.proofs.Common.{ℕ, List, ◌∷◌, ◌++◌, ◌≡◌, refl, sym, ◌∙◌, subst, Result, Ok, Err, OnOk, Some, ◌≢◌, ◌≤◌, ◌<◌, Bool, Option, None, IfSome, length, IsErrOf, true, arith}
use Rattle.amqp_value_core.specs.declared.types.amqp_type.AMQPType.TheVariants as amqp
use Rattle.amqp_value_core.specs.Values.{Tree, Trees, Entries, array, table, type_of}
use Rattle.amqp_value_core.specs.Ids.{kind}
use Rattle.amqp_value_core.specs.Canonical.{canon, CanonRaw}
use Rattle.amqp_value_core.specs.Texts.{text, payload, Fits}
use Rattle.amqp_value_core.specs.InMemory.{IsValue}
use Rattle.amqp_value_core.specs.Outcomes.{read_back}
use Rattle.amqp_value_core.proofs.GrammarLaws.{reading_back, value_to_raw, is_canonical, payload_is_canon, bounded_wire, raw_bounds, what_raw_reads, length_of_payload}
use Rattle.amq_protocol_types.specs.declared.generation.error.GenError.{GenError}
use Rattle.amq_protocol_types.specs.generation.Written.{IsReadBackAndCanonical, IsPayloadReadBack, IsPayloadCanonical, WritesWhatWasRead, WritesPayloadRead}
use Rattle.amqp_value_core.specs.declared.types.amqp_type.AMQPType.{AMQPType}
use Rattle.amq_protocol_types.specs.declared.generation.error.GenError.TheVariants.{LengthTooLong}
use Rattle.amq_protocol_types.specs.generation.Outputs.{OutputState, Writes}

-- a value whose encoding was written
pub written : (v : Tree) (r : Result (Unit {0}) GenError) → OnOk r (IsValue v) → OnOk r (Fits v) → OnOk r (IsReadBackAndCanonical v)
written v (Ok _) is fits = record { value = is; read_back = λ rest. reading_back v rest is fits; canonical = is_canonical v is fits }
written v (Err _) is fits = tt

-- a container whose payload was written
pub array_read_back : (vs : Trees) (r : Result (Unit {0}) GenError) → OnOk r (IsValue (array vs)) → OnOk r (Fits (array vs))
    → OnOk r (IsPayloadReadBack amqp.FieldArray (array vs))
array_read_back vs (Ok _) is fits = λ rest. value_to_raw 65 amqp.FieldArray (payload (array vs) ++ rest) (read_back (array vs) rest) refl (reading_back (array vs) rest is fits)
array_read_back vs (Err _) is fits = tt

pub table_read_back : (es : Entries) (r : Result (Unit {0}) GenError) → OnOk r (IsValue (table es)) → OnOk r (Fits (table es))
    → OnOk r (IsPayloadReadBack amqp.FieldTable (table es))
table_read_back es (Ok _) is fits = λ rest. value_to_raw 70 amqp.FieldTable (payload (table es) ++ rest) (read_back (table es) rest) refl (reading_back (table es) rest is fits)
table_read_back es (Err _) is fits = tt

-- bytes are its canonical payload exactly if they were written of a readable one
payload_canonical : (c : ℕ) (type : AMQPType) (v : Tree) → kind c ≡ Some type → c < 256 → c ≢ 85 → c ≢ 76 → text v ≡ c ∷ payload v → type_of v ≡ type → IsValue v → Fits v
    → IsPayloadCanonical type v
payload_canonical c type v k byte not_U not_L e same is fits = λ b bytes. (
  λ p.
      let h = (is_canonical v is fits (c ∷ b) (byte, bytes)).0 (canon c type b v k not_U not_L p) in
      let whole : c ∷ b ≡ c ∷ payload v = h.1 ∙ e in
      (h.0, cc),
  λ h. subst (λ (x : List ℕ). CanonRaw type x v) (sym h.1) (subst (λ (t : AMQPType). CanonRaw t (payload v) v) same (payload_is_canon v is fits h.0)),
)

pub array_canonical : (vs : Trees) (r : Result (Unit {0}) GenError) → OnOk r (IsValue (array vs)) → OnOk r (Fits (array vs))
    → OnOk r (IsPayloadCanonical amqp.FieldArray (array vs))
array_canonical vs (Ok _) is fits =
    payload_canonical 65 amqp.FieldArray (array vs) refl (omega arith) (λ e. absurd (omega (arith, e))) (λ e. absurd (omega (arith, e))) refl refl is fits
array_canonical vs (Err _) is fits = tt

pub table_canonical : (es : Entries) (r : Result (Unit {0}) GenError) → OnOk r (IsValue (table es)) → OnOk r (Fits (table es))
    → OnOk r (IsPayloadCanonical amqp.FieldTable (table es))
table_canonical es (Ok _) is fits =
    payload_canonical 70 amqp.FieldTable (table es) refl (omega arith) (λ e. absurd (omega (arith, e))) (λ e. absurd (omega (arith, e))) refl refl is fits
table_canonical es (Err _) is fits = tt

-- what succeeds if n bytes fit does if more do
in_more_capacity : (P : Type 0) (capacity : Option ℕ) (n m : ℕ) → n ≤ m → IfSome capacity (λ r. n ≤ r → P) → IfSome capacity (λ r. m ≤ r → P)
in_more_capacity P None n m le h = tt
in_more_capacity P (Some r) n m le h = λ fit. h (omega arith)

-- no length is too long if each fits
never_long : {b : Bool} {A : Type 0} {xs : List ℕ} {s t : OutputState} (r : Result (Unit {0}) GenError) → Writes b A xs s r t → IsErrOf r LengthTooLong → A → ⊥
never_long (Ok _) p is = cc
never_long (Err e) p is = let long : e ≡ LengthTooLong = cc in p.fails.too_long long

-- what writes a value's canonical encoding writes a value that was read
pub writes_what_was_read : {v : Tree} {s t : OutputState} {r : Result (Unit {0}) GenError} → Writes true (Fits v) (text v) s r t → WritesWhatWasRead v s r
writes_what_was_read {v = v} {s = s} {r = r} p = record {
  never_too_long = λ w q e. never_long r p e (bounded_wire w v q).fits;
  succeeds = λ w q.
      let bound = bounded_wire w v q in
      in_more_capacity _ s.capacity (length (text v)) (length w) (bound.size) (p.succeeds bound.fits);
}

-- and what writes a payload of the type, a payload that was read
pub writes_payload_read : {type : AMQPType} {v : Tree} {s t : OutputState} {r : Result (Unit {0}) GenError} → type ≢ amqp.ShortString
    → Writes true (Fits v) (payload v) s r t → WritesPayloadRead type v s r
writes_payload_read {type = type} {v = v} {s = s} {r = r} other p = record {
  never_too_long = λ b q e. never_long r p e (what_raw_reads type b v other q).0;
  succeeds = λ b q.
      let bound = raw_bounds type b v q in
      in_more_capacity _ s.capacity (length (payload v)) (length b) (omega (arith, bound.0, length_of_payload v)) (p.succeeds (what_raw_reads type b v other q).0);
}
