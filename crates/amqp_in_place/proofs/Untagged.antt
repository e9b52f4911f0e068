-- Tables without their type tag: the head, the view, the errors and the canonical encoding of each
-- are those of the same bytes after the type tag (`tagged`).
use Rattle.std.proofs.Common.{◌≡◌, ◌<◌, ◌≤◌, ◌^◌, ◌∷◌, ◌++◌, ℕ, zero, suc, List, length, refl, arith, ap, subst, sym, ◌+◌}
use Rattle.std.specs.Int.{w32}
use Rattle.amqp_value_core.specs.declared.types.amqp_type.AMQPType.TheVariants as amqp
use Rattle.amqp_value_core.specs.Grammar.{long_field}
use Rattle.amqp_value_core.specs.Nesting.{OutcomeWithin}
use Rattle.amqp_value_core.specs.Outcomes.{Reading, more, frame_lack, needs_more}
use Rattle.amqp_value_core.specs.Bytes.{slice_bytes, IsBytes}
use Rattle.amqp_value_core.specs.declared.input.SliceInput.{SliceInput}
use Rattle.amq_protocol_types.specs.declared.parsing.within.Limits.{Limits}
use Rattle.amq_protocol_types.specs.parsing.Refusals.{Refusal}
use Rattle.amq_protocol_types.specs.parsing.ParseResults.{IsRefusal}
use Rattle.amq_protocol_types.specs.parsing.Bodies.{IsLengthPrefixed, IsCutLengthPrefixed}
use Rattle.amq_protocol_types.specs.parsing.Headers.{extent}
use Rattle.amq_protocol_types.specs.parsing.Untagged.{tagged, RefusesUntagged}
use Rattle.amqp_in_place.specs.declared.head.Head.TheVariants as head
use Rattle.amqp_in_place.specs.declared.refs.TableRef.{TableRef}
use Rattle.amqp_in_place.specs.declared.refs.ValueRef.TheVariants as at
use Rattle.amqp_in_place.specs.Refs.{table_body}
use Rattle.amqp_in_place.specs.Heads.{IsHead}
use Rattle.amqp_in_place.specs.Places.{IsViewIn}
use Rattle.amqp_in_place.specs.InPlaceResults.{NeedsNoMemory}
use Rattle.amqp_in_place.proofs.Refusals.{by_outcome}
use Rattle.amqp_in_place.specs.Canonicals.{IsCanonicalLen, HasCanonicalBody, IsFirstSpelling}
use Rattle.amqp_in_place.proofs.Canonicals.{head_at_start, head_inside, canon_len, prefix_of_len}

-- after its type tag the table is what the head of a value is
pub table_head : (s : List ℕ) (i : SliceInput) (rest : List ℕ) → IsLengthPrefixed s (slice_bytes i) rest → IsHead (tagged amqp.FieldTable s) (head.FieldTable i) rest
table_head s i rest f = (amqp.FieldTable, s, (70, refl, refl), (refl, f))

-- and a view of it, if it is one
pub table_at_start : (s : List ℕ) (t : TableRef) (rest : List ℕ) → s ≡ long_field (table_body t) ++ rest → length (table_body t) < 2 ^ 32 → IsViewIn (tagged amqp.FieldTable s) (at.FieldTable t) rest
table_at_start s t rest e few = (70, refl, few, ap (λ (u : List ℕ). 70 ∷ u) e)

-- bytes that are missing of the length or the body are missing of the table
lacking : (d : ℕ) (s : List ℕ) (o : Reading) → IsCutLengthPrefixed s o → OutcomeWithin d (tagged amqp.FieldTable s) o
lacking d s o x = subst (OutcomeWithin d (tagged amqp.FieldTable s)) (sym x.1) (by (frame_lack w32 s) refl x.0)
  where
    by : (n : ℕ) → frame_lack w32 s ≡ n → 0 < n → OutcomeWithin d (tagged amqp.FieldTable s) (more n)
    by zero e some = absurd (omega (arith, some))
    by (suc n) e some = needs_more 70 amqp.FieldTable s n refl e

-- the error of the length-prefixed field is the table's, and needs no memory
pub cut_table : (l : Limits) (s : List ℕ) (e : Refusal) → extent (tagged amqp.FieldTable s) ≤ l.frame → IsRefusal (IsCutLengthPrefixed s) ⊥ e
    → RefusesUntagged l amqp.FieldTable s e × NeedsNoMemory e
cut_table l s e fits x =
    by_outcome (λ (e : Refusal). RefusesUntagged l amqp.FieldTable s e × NeedsNoMemory e) (IsCutLengthPrefixed s) ⊥ (λ n y. ((fits, lacking l.depth s (more n) y), tt))
    (λ y. absurd (let e = y.1 in cc)) (λ y. absurd (let e = y.1 in cc)) (λ k h. absurd h) e x

-- ---- canonical encodings

-- the type tag is no alternate one
first_spelling : (s : List ℕ) → IsFirstSpelling (tagged amqp.FieldTable s)
first_spelling s = (λ e. omega (arith, e), λ e. omega (arith, e), λ e. absurd (omega (arith, e)))

module _ (l : Limits) (s : List ℕ) (i : SliceInput) (rest : List ℕ) (f : IsLengthPrefixed s (slice_bytes i) rest) where
  -- a table whose body is canonical is
  pub table_len : IsBytes s → extent (tagged amqp.FieldTable s) ≤ l.frame → HasCanonicalBody l.depth (head.FieldTable i) → (n : ℕ) → length s ≡ n + length rest
      → IsCanonicalLen l (tagged amqp.FieldTable s) (1 + n)
  table_len bytes fits all n size =
      let t = tagged amqp.FieldTable s in
      canon_len l t rest (1 + n) (omega arith, bytes) fits (head_at_start l.depth t rest (head.FieldTable i) (table_head s i rest f) (first_spelling s) all) (omega (arith, size))

  -- and only that
  pub len_inside : (n : ℕ) → IsCanonicalLen l (tagged amqp.FieldTable s) n → HasCanonicalBody l.depth (head.FieldTable i)
  len_inside n x =
      let prefix = prefix_of_len l (tagged amqp.FieldTable s) n x in
      head_inside l.depth (tagged amqp.FieldTable s) rest (head.FieldTable i) prefix.0 (table_head s i rest f) prefix.1
