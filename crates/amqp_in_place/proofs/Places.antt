-- `inside`: what refers to a head is a view of the start of the bytes (`IsViewIn`); and each step
-- leaves bytes of the same body (`value_left`, `pair_left`).
use Rattle.std.proofs.Common.{◌≡◌, ◌^◌, ◌<◌, ℕ, List, [], ◌∷◌, ◌++◌, length, Some, refl, sym, ap, ◌∙◌, subst, append_assoc}
use Rattle.amqp_value_core.specs.declared.types.amqp_type.AMQPType.{AMQPType}
use Rattle.amqp_value_core.specs.declared.types.amqp_type.AMQPType.TheVariants as amqp
use Rattle.amqp_value_core.specs.Ids.{kind}
use Rattle.amqp_value_core.specs.Values.{Tree, long, octets}
use Rattle.amqp_value_core.specs.Grammar.{short_field, long_field, Raw, raw_fixed, raw_short, raw_long, raw_octets, raw_array, raw_table}
use Rattle.amqp_value_core.specs.Outcomes.{found, RawOutcome}
use Rattle.amqp_value_core.proofs.GrammarLaws.{wire_of, prefix_within}
use Rattle.amqp_value_core.specs.Bytes.{slice_bytes}
use Rattle.amqp_value_core.specs.declared.input.SliceInput.{SliceInput}
use Rattle.amqp_in_place.specs.declared.head.Head.{Head}
use Rattle.amqp_in_place.specs.declared.head.Head.TheVariants as head
use Rattle.amqp_in_place.specs.declared.refs.ValueRef.{ValueRef}
use Rattle.amqp_in_place.specs.declared.refs.ValueRef.TheVariants as at
use Rattle.amqp_in_place.specs.Refs.{plain_tree, array_body, table_body}
use Rattle.amqp_in_place.specs.InPlaceResults.{IsLeft}
use Rattle.amqp_in_place.specs.Heads.{IsHead, RefersTo}
use Rattle.amqp_in_place.specs.Places.{IsFramed, IsViewIn, IsViewWithin, IsPairViewIn}
use Rattle.amq_protocol_types.specs.parsing.PayloadResults.{IsType}
use Rattle.amqp_in_place.proofs.HeadLemmas.{plain_read}

-- the payload is of the type, and is the bytes after their length
abbrev IsLongField : AMQPType → AMQPType → List ℕ → List ℕ → Type 0
IsLongField other type w b = (other ≡ type) × (w ≡ long_field b) × (length b < 2 ^ 32)

-- the bytes of a payload that is a long string, or a byte array
long_bytes : (type : AMQPType) (w : List ℕ) (v : Tree) (b : List ℕ) → Raw type w v → v ≡ long b → IsLongField type amqp.LongString w b
long_bytes _ _ _ b (raw_fixed type f w row len) e = absurd cc
long_bytes _ _ _ b (raw_short s is) e = absurd cc
long_bytes _ _ _ b (raw_long s fits) e = let same : s ≡ b = cc in (refl, ap long_field same, subst (λ (t : List ℕ). length t < 2 ^ 32) same fits)
long_bytes _ _ _ b (raw_octets s fits) e = absurd cc
long_bytes _ _ _ b (raw_array s vs fits p) e = absurd cc
long_bytes _ _ _ b (raw_table s ps es fits p mean) e = absurd cc

octets_bytes : (type : AMQPType) (w : List ℕ) (v : Tree) (b : List ℕ) → Raw type w v → v ≡ octets b → IsLongField type amqp.ByteArray w b
octets_bytes _ _ _ b (raw_fixed type f w row len) e = absurd cc
octets_bytes _ _ _ b (raw_short s is) e = absurd cc
octets_bytes _ _ _ b (raw_long s fits) e = absurd cc
octets_bytes _ _ _ b (raw_octets s fits) e = let same : s ≡ b = cc in (refl, ap long_field same, subst (λ (t : List ℕ). length t < 2 ^ 32) same fits)
octets_bytes _ _ _ b (raw_array s vs fits p) e = absurd cc
octets_bytes _ _ _ b (raw_table s ps es fits p mean) e = absurd cc

-- what a payload is that is found
payload_of : (type : AMQPType) (s rest : List ℕ) (v : Tree) → RawOutcome type s (found v rest) → (w : List ℕ) × Raw type w v × (s ≡ w ++ rest)
payload_of type s rest v x = x

framed : (type other : AMQPType) (s mid body rest w : List ℕ) → IsType s other mid → mid ≡ w ++ rest → IsLongField other type w body → IsFramed type s body rest
framed type other s mid body rest w (c, is, tag) e (one, same, few) =
    (c, subst (λ (t : AMQPType). kind c ≡ Some t) one tag, few, is ∙ ap (λ (t : List ℕ). c ∷ t) (e ∙ ap (λ (t : List ℕ). t ++ rest) same))

pub plain_is_in : (s : List ℕ) (r : ValueRef) (rest : List ℕ) → IsHead s (head.Plain r) rest → IsViewIn s r rest
plain_is_in s (at.LongString b) rest (type, mid, p, q) =
    let x = payload_of type mid rest (long b.now) q.2 in
    framed amqp.LongString type s mid b.now rest x.0 p x.2 (long_bytes type x.0 (long b.now) b.now x.1 refl)
plain_is_in s (at.ByteArray b) rest (type, mid, p, q) =
    let x = payload_of type mid rest (octets b.now) q.2 in
    framed amqp.ByteArray type s mid b.now rest x.0 p x.2 (octets_bytes type x.0 (octets b.now) b.now x.1 refl)
plain_is_in s (at.FieldArray a) rest (type, mid, p, q) = absurd q.0
plain_is_in s (at.FieldTable t) rest (type, mid, p, q) = absurd q.0
plain_is_in s r rest is = let f = prefix_within 0 s rest (plain_tree r) (plain_read s r rest is 0) in (f.0, wire_of 0 f.0 (plain_tree r) f.1, f.2)

pub array_is_in : (s : List ℕ) (i : SliceInput) (rest : List ℕ) → IsHead s (head.FieldArray i) rest → IsFramed amqp.FieldArray s (slice_bytes i) rest
array_is_in s i rest (type, mid, p, q) = framed amqp.FieldArray type s mid (slice_bytes i) rest (long_field (slice_bytes i)) p q.1.framed (q.0, refl, q.1.fits)

pub table_is_in : (s : List ℕ) (i : SliceInput) (rest : List ℕ) → IsHead s (head.FieldTable i) rest → IsFramed amqp.FieldTable s (slice_bytes i) rest
table_is_in s i rest (type, mid, p, q) = framed amqp.FieldTable type s mid (slice_bytes i) rest (long_field (slice_bytes i)) p q.1.framed (q.0, refl, q.1.fits)

-- so what refers to what is in the head does
pub inside : (s : List ℕ) (h : Head) (r : ValueRef) (rest : List ℕ) → IsHead s h rest → RefersTo h r → IsViewIn s r rest
inside s (head.Plain q) r rest is e = subst (λ (x : ValueRef). IsViewIn s x rest) (sym e) (plain_is_in s q rest is)
inside s (head.FieldArray i) (at.FieldArray a) rest is e = subst (λ (t : List ℕ). IsFramed amqp.FieldArray s t rest) (sym e) (array_is_in s i rest is)
inside s (head.FieldArray i) _ rest is e = absurd e
inside s (head.FieldTable i) (at.FieldTable t) rest is e = subst (λ (u : List ℕ). IsFramed amqp.FieldTable s u rest) (sym e) (table_is_in s i rest is)
inside s (head.FieldTable i) _ rest is e = absurd e

-- what refers to the start of s does so whatever is after it
pub view_parts : (s : List ℕ) (r : ValueRef) (rest : List ℕ) → IsViewIn s r rest → (w : List ℕ) × (s ≡ w ++ rest) × ((t : List ℕ) → IsViewIn (w ++ t) r t)
view_parts s r rest x = by r x
  where
    after : (type : AMQPType) (body : List ℕ) → IsFramed type s body rest → (w : List ℕ) × (s ≡ w ++ rest) × ((t : List ℕ) → IsFramed type (w ++ t) body t)
    after type body f = (f.0 ∷ long_field body, f.3, λ t. (f.0, f.1, f.2, refl))

    by : (r : ValueRef) → IsViewIn s r rest → (w : List ℕ) × (s ≡ w ++ rest) × ((t : List ℕ) → IsViewIn (w ++ t) r t)
    by (at.LongString b) y = after amqp.LongString b.now y
    by (at.ByteArray b) y = after amqp.ByteArray b.now y
    by (at.FieldArray a) y = after amqp.FieldArray (array_body a) y
    by (at.FieldTable t) y = after amqp.FieldTable (table_body t) y
    by _ y = (y.0, y.2, λ t. (y.0, y.1, refl))

-- so the rest of the bytes is left
is_in_before : (s : List ℕ) (r : ValueRef) (rest : List ℕ) → IsViewIn s r rest → IsLeft s rest
is_in_before s r rest x = let f = view_parts s r rest x in (f.0, f.1)

-- what is left of what is left
pub left_of_left : (s mid rest : List ℕ) → IsLeft s mid → IsLeft mid rest → IsLeft s rest
left_of_left s mid rest a b = (a.0 ++ b.0, a.1 ∙ (ap (λ (t : List ℕ). a.0 ++ t) b.1 ∙ sym (append_assoc a.0 b.0 rest)))

pub nothing_before : (s : List ℕ) → IsLeft s s
nothing_before s = ([], refl)

-- one step of an iteration over s, of which `rest` is left
module _ (s rest after : List ℕ) (r : ValueRef) (left : IsLeft s rest) where
  pub value_left : IsViewIn rest r after → IsLeft s after
  value_left x = left_of_left s rest after left (is_in_before rest r after x)

  pub value_within : IsViewIn rest r after → IsViewWithin s r
  value_within x = (left.0, rest, after, left.1, x)

  pub pair_left : (key : List ℕ) → IsPairViewIn rest key r after → IsLeft s after
  pair_left key x = left_of_left s rest after left (left_of_left rest x.0 after (short_field key, x.1) (is_in_before x.0 r after x.2))

  pub pair_within : (key : List ℕ) → IsPairViewIn rest key r after → IsViewWithin s r
  pair_within key x =
      let before = left_of_left s rest x.0 left (short_field key, x.1) in
      (before.0, x.0, after, before.1, x.2)
