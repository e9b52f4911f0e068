-- `read_head` returns the `Head` of a value, or the error of reading it (`head_result`, `no_head`);
-- and with a head a value is read exactly if its body is valid (`head_read`, `head_bad`).
use Rattle.std.proofs.Common.{◌≡◌, ◌<◌, ◌-◌, ◌+◌, ℕ, List, [], ◌∷◌, ◌++◌, length, MatchResult, Result, Ok, Err, refl, sym, ap, ◌∙◌, subst, arith, length-append, inl, inr}
use Rattle.std.specs.Int.{w8}
use Rattle.std.specs.Str.{IsUtf8}
use Rattle.std.proofs.lemmas.Bool.{cases_lt, le-ltb}
use Rattle.amqp_value_core.specs.Bytes.{IsShort, slice_bytes}
use Rattle.amqp_value_core.specs.declared.types.amqp_type.AMQPType.{AMQPType}
use Rattle.amqp_value_core.specs.declared.types.amqp_type.AMQPType.TheVariants as amqp
use Rattle.amqp_value_core.specs.Values.{Tree, Entries, no_entries, short, array, table}
use Rattle.amqp_value_core.specs.Maps.{insert_all}
use Rattle.amqp_value_core.specs.Grammar.{short_field, long_field, Wire, raw_short, raw_array, raw_table}
use Rattle.amqp_value_core.specs.Nesting.{nesting, OutcomeWithin, RawOutcomeWithin}
use Rattle.amqp_value_core.specs.Outcomes.{Reading, found, more, unknown, malformed, lack, frame_lack, counted, Outcome, RawOutcome}
use Rattle.amqp_value_core.proofs.GrammarLaws.{RawPrefix, wire_within, body_of, pairs_of, put_mean, one_outcome_within, one_raw_reading, value_to_raw, raw_to_value_within, raw_whole, raw_found, wire_found, wire_found_within, array_body, table_body, short_bytes}
use Rattle.amqp_value_core.specs.declared.input.SliceInput.{SliceInput}
use Rattle.amq_protocol_types.specs.declared.parsing.errors.Err.TheVariants.{Incomplete, Error, Failure}
use Rattle.amq_protocol_types.specs.declared.parsing.errors.Needed.TheVariants.{Unknown, Size}
use Rattle.amq_protocol_types.specs.declared.parsing.errors.ErrorKind.{ErrorKind}
use Rattle.amq_protocol_types.specs.declared.parsing.errors.ErrorKind.TheVariants.{Eof}
use Rattle.amq_protocol_types.specs.parsing.Refusals.{Refusal}
use Rattle.amq_protocol_types.specs.parsing.PayloadResults.{IsType, IsNoType, OnlyLacks}
use Rattle.amq_protocol_types.specs.parsing.Bodies.{IsTable}
use Rattle.amq_protocol_types.specs.parsing.ParseResults.{IsRefusal}
use Rattle.amq_protocol_types.proofs.ParsingLaws.{no_type_outcome, IsRefusal-weaker, long_found, octets_found, void_found, unsigned_outcome, IsPlainPayload, plain_found, array_found, array_refused, array_too_deep, table_found, table_refused, table_too_deep}
use Rattle.amqp_in_place.specs.declared.head.Head.{Head}
use Rattle.amqp_in_place.specs.declared.head.Head.TheVariants as head
use Rattle.amqp_in_place.specs.declared.refs.ValueRef.{ValueRef}
use Rattle.amqp_in_place.specs.declared.refs.ValueRef.TheVariants as at
use Rattle.amqp_in_place.specs.Bodies.{HasEntries}
use Rattle.amqp_in_place.specs.Refs.{plain_tree, Denotes}
use Rattle.amqp_in_place.specs.InPlaceResults.{HeadRefuses}
use Rattle.amqp_in_place.specs.Heads.{IsPlainRef, IsPlainType, RawHeadIs, IsHead, AtAnyDepth, HasValidBody, HeadMeans, IsKeyFrame}
use Rattle.amqp_in_place.proofs.Refusals.{by_outcome}

-- a value that is no container denotes its tree
pub plain_stands : (r : ValueRef) → IsPlainRef r → Denotes r (plain_tree r)
plain_stands (at.FieldArray a) p = absurd p
plain_stands (at.FieldTable t) p = absurd p
plain_stands _ p = refl

plain_type : (type : AMQPType) → IsPlainType type → IsPlainPayload type
plain_type amqp.FieldArray p = absurd p
plain_type amqp.FieldTable p = absurd p
plain_type _ p = tt

-- the type tag of the type is read from s, and `mid` is left
module _ (s mid : List ℕ) (type : AMQPType) (p : IsType s type mid) where
  -- what reading the payload results in, reading the value does
  typed : (d : ℕ) (o : Reading) → RawOutcomeWithin d type mid o → OutcomeWithin d s o
  typed d o x = subst (λ (t : List ℕ). OutcomeWithin d t o) (sym p.1) (raw_to_value_within d p.0 type mid o p.2 x)

  -- bytes that are missing of the payload are missing of the value
  typed_lack : (n : ℕ) → RawOutcome type mid (more n) → AtAnyDepth s (more n)
  typed_lack n x = λ d. typed d (more n) x

  -- the result for the payload is the value's
  pub head_result : (r : Result (SliceInput × Head) Refusal) → MatchResult r (λ x. RawHeadIs type mid x.1 (slice_bytes x.0)) (OnlyLacks (RawOutcome type mid) ⊥)
      → MatchResult r (λ x. IsHead s x.1 (slice_bytes x.0)) (HeadRefuses (AtAnyDepth s))
  head_result (Ok x) q = (type, mid, p, q)
  head_result (Err (Incomplete Unknown)) q = absurd q
  head_result (Err (Incomplete (Size n))) q = typed_lack n q
  head_result (Err (Error k)) q = absurd q
  head_result (Err (Failure k)) q = q

  -- what is at the start of the value, if there is an encoding
  payload_at_start : (w left : List ℕ) (v : Tree) → Wire w v → s ≡ w ++ left → RawOutcome type mid (found v left)
  payload_at_start w left v q e =
      let x : Outcome s (found v left) = subst (λ (t : List ℕ). Outcome t (found v left)) (sym e) (wire_found w left v q) in
      value_to_raw p.0 type mid (found v left) p.2 (subst (λ (t : List ℕ). Outcome t (found v left)) p.1 x)

-- bytes that are missing of a LongLongInt are missing of a LongLongUInt
pub unsigned_lacks : (s : List ℕ) (e : Refusal) → OnlyLacks (RawOutcome amqp.LongLongInt s) ⊥ e → OnlyLacks (RawOutcome amqp.LongLongUInt s) ⊥ e
unsigned_lacks s (Incomplete Unknown) x = x
unsigned_lacks s (Incomplete (Size n)) x = unsigned_outcome s (more n) x
unsigned_lacks s (Error k) x = x
unsigned_lacks s (Failure k) x = x

-- what the arms of a payload's head are proved by
pub ruleset payload_heads = (long_found, octets_found, void_found, unsigned_outcome, unsigned_lacks)

-- if no type is read, no value is
none_there : (s : List ℕ) (o : Reading) → IsNoType s o → AtAnyDepth s o
none_there s o x = λ d. no_type_outcome d s o x

pub no_type_whole : (s : List ℕ) → IsNoType s malformed → ⊥
no_type_whole [] is = absurd cc
no_type_whole (c ∷ b) is = absurd (let e = is.0 in cc)

pub no_head : (s : List ℕ) (e : Refusal) → IsRefusal (IsNoType s) ⊥ e → HeadRefuses (AtAnyDepth s) e
no_head s e x =
    by_outcome (HeadRefuses (AtAnyDepth s)) (IsNoType s) ⊥ (λ n y. none_there s (more n) y) (λ y. (refl, none_there s unknown y)) (λ y. absurd (no_type_whole s y)) (λ k h. absurd h) e x

-- an error of the head is one of reading, whatever is wanted of it
pub head_refuses : (Is : Reading → Type 0) (e : Refusal) → HeadRefuses Is e → IsRefusal Is ⊥ e
head_refuses Is (Incomplete Unknown) x = x
head_refuses Is (Incomplete (Size n)) x = x
head_refuses Is (Error k) x = subst (λ (j : ErrorKind). IsRefusal Is ⊥ (Error j)) (sym x.0) x.1
head_refuses Is (Failure k) x = x

-- and so it is within each depth
pub head_within : (d : ℕ) (s : List ℕ) (e : Refusal) → HeadRefuses (AtAnyDepth s) e → IsRefusal (OutcomeWithin d s) ⊥ e
head_within d s e x =
    IsRefusal-weaker (AtAnyDepth s) (OutcomeWithin d s) ⊥ ⊥ e (λ o y. y d) (λ h. h) (head_refuses (AtAnyDepth s) e x)

-- ---- what a head is found to mean

-- pairs of a table within a depth are entries
pub entries_of_table : (d : ℕ) (s : List ℕ) (es : Entries) → IsTable d s es → HasEntries s es
entries_of_table d s es x = (x.0, pairs_of d s x.0 x.1, x.2)

-- a value that is no container is found, whatever the limit on depth
pub plain_read : (s : List ℕ) (r : ValueRef) (rest : List ℕ) → IsHead s (head.Plain r) rest → AtAnyDepth s (found (plain_tree r) rest)
plain_read s r rest (type, mid, p, q) = λ d.
    typed s mid type p d (found (plain_tree r) rest) (plain_found d type mid rest (plain_tree r) (plain_type type q.1) q.2)

pub plain_meant : (s : List ℕ) (r : ValueRef) (rest : List ℕ) → IsHead s (head.Plain r) rest → Denotes r (plain_tree r)
plain_meant s r rest (type, mid, p, q) = plain_stands r q.0

-- what a value is, or that none is read, by the body of a container
module _ (d : ℕ) (s rest : List ℕ) where
  -- what reading the payload results in, reading the value does
  of_type : (kept type : AMQPType) (mid : List ℕ) (o : Reading) → IsType s type mid → type ≡ kept → RawOutcomeWithin d kept mid o → OutcomeWithin d s o
  of_type kept type mid o p e x = typed s mid type p d o (subst (λ (t : AMQPType). RawOutcomeWithin d t mid o) (sym e) x)

  -- it is read if the body is valid
  pub head_read : (h : Head) → IsHead s h rest → HasValidBody d h → (v : Tree) × HeadMeans h v × OutcomeWithin d s (found v rest)
  head_read (head.Plain r) is x = (plain_tree r, plain_meant s r rest is, plain_read s r rest is d)
  head_read (head.FieldArray i) (type, mid, p, q) (some, vs, x) = (
    array vs,
    (vs, body_of (d - 1) (slice_bytes i) vs x, refl),
    of_type amqp.FieldArray type mid (found (array vs) rest) p q.0 (array_found d mid (slice_bytes i) rest q.1 vs some x),
  )
  head_read (head.FieldTable i) (type, mid, p, q) (some, es, x) = (
    table es,
    (es, entries_of_table (d - 1) (slice_bytes i) es x, refl),
    of_type amqp.FieldTable type mid (found (table es) rest) p q.0 (table_found d mid (slice_bytes i) rest q.1 es some x),
  )

  -- and only then
  pub head_bad : (h : Head) → IsHead s h rest → (HasValidBody d h → ⊥) → OutcomeWithin d s malformed
  head_bad (head.Plain r) is none = absurd (none tt)
  head_bad (head.FieldArray i) (type, mid, p, q) none = of_type amqp.FieldArray type mid malformed p q.0 (elim (cases_lt 0 d) [
    | inl some ↦ array_refused d mid (slice_bytes i) rest q.1 (Error Eof) (λ vs x. none (some, vs, x))
    | inr deep ↦ array_too_deep d mid (slice_bytes i) rest q.1 (omega (arith, deep))
  ])
  head_bad (head.FieldTable i) (type, mid, p, q) none = of_type amqp.FieldTable type mid malformed p q.0 (elim (cases_lt 0 d) [
    | inl some ↦ table_refused d mid (slice_bytes i) rest q.1 (Error Eof) (λ ps x. none (some, insert_all no_entries ps, (ps, x, put_mean ps)))
    | inr deep ↦ table_too_deep d mid (slice_bytes i) rest q.1 (omega (arith, deep))
  ])

-- how many bytes the body of a container has
abbrev pub body_size : Head → ℕ
body_size (head.Plain r) = 0
body_size (head.FieldArray i) = length (slice_bytes i)
body_size (head.FieldTable i) = length (slice_bytes i)

-- fewer than the value
pub body_shorter : (s : List ℕ) (h : Head) (rest : List ℕ) → IsHead s h rest → body_size h < length s
body_shorter s (head.Plain r) rest (type, mid, p, q) = omega (arith, ap length p.1)
body_shorter s (head.FieldArray i) rest (type, mid, p, q) = omega (arith, ap length p.1, ap length q.1.framed, length-append (long_field (slice_bytes i)) rest)
body_shorter s (head.FieldTable i) rest (type, mid, p, q) = omega (arith, ap length p.1, ap length q.1.framed, length-append (long_field (slice_bytes i)) rest)

-- what is at the start is what the head means, and no more
pub only : (s : List ℕ) (h : Head) (rest w left : List ℕ) (v : Tree) → IsHead s h rest → Wire w v → s ≡ w ++ left → HeadMeans h v × (left ≡ rest)
only s (head.Plain r) rest w left v (type, mid, p, q) x e =
    let d = nesting w v x in
    let here : OutcomeWithin d s (found v left) = subst (λ (t : List ℕ). OutcomeWithin d t (found v left)) (sym e) (wire_found_within d w left v (wire_within d w v x (omega arith))) in
    let same : found (plain_tree r) rest ≡ found v left = one_outcome_within d s _ _ (plain_read s r rest (type, mid, p, q) d) here in
    let one : plain_tree r ≡ v = cc in
    (subst (Denotes r) one (plain_stands r q.0), cc)
only s (head.FieldArray i) rest w left v (type, mid, p, q) x e =
    let f = q.1 in
    let raw : RawOutcome amqp.FieldArray mid (found v left) = subst (λ (t : AMQPType). RawOutcome t mid (found v left)) q.0 (payload_at_start s mid type p w left v x e) in
    let b = array_body (slice_bytes i) rest raw.0 left v f.fits raw.1 (sym f.framed ∙ raw.2) in
    let same = one_raw_reading amqp.FieldArray raw.0 (long_field (slice_bytes i)) left rest v (array b.0) raw.1 (raw_array (slice_bytes i) b.0 f.fits b.1) (sym raw.2 ∙ f.framed) in
    ((b.0, b.1, same.1), same.2)
only s (head.FieldTable i) rest w left v (type, mid, p, q) x e =
    let f = q.1 in
    let raw : RawOutcome amqp.FieldTable mid (found v left) = subst (λ (t : AMQPType). RawOutcome t mid (found v left)) q.0 (payload_at_start s mid type p w left v x e) in
    let b = table_body (slice_bytes i) rest raw.0 left v f.fits raw.1 (sym f.framed ∙ raw.2) in
    let es = insert_all no_entries b.0 in
    let same = one_raw_reading amqp.FieldTable raw.0 (long_field (slice_bytes i)) left rest v (table es) raw.1 (raw_table (slice_bytes i) b.0 es f.fits b.1 (put_mean b.0)) (sym raw.2 ∙ f.framed) in
    ((es, (b.0, b.1, put_mean b.0), same.1), same.2)

-- ---- keys

module _ (s body rest : List ℕ) (f : IsKeyFrame s body rest) where
  key_whole : lack amqp.ShortString s ≡ 0
  key_whole =
      let size : length s ≡ 1 + length body + length rest = ap length f.framed ∙ omega (arith, length-append body rest) in
      let known : frame_lack w8 s ≡ 1 + counted w8 s - length s = rw (le-ltb (length s) 1 (omega arith)) refl in
      let count : counted w8 s ≡ length body = ap (counted w8) f.framed ∙ omega (arith, f.few) in
      omega arith

  -- a key whose bytes aren't UTF-8 is rejected
  pub key_refused : (IsUtf8 body → ⊥) → RawOutcome amqp.ShortString s malformed
  key_refused none =
      let prefix : RawPrefix amqp.ShortString s malformed = λ b left v p d. none (short_bytes body rest b left v p (sym f.framed ∙ d)).utf8 in
      raw_whole amqp.ShortString s malformed key_whole prefix

  -- a key whose bytes are UTF-8 is found
  pub key_found : IsUtf8 body → RawOutcome amqp.ShortString s (found (short body) rest)
  key_found utf8 =
      let is : IsShort body = record { few = f.few; utf8 = utf8 } in
      rw f.framed (raw_found amqp.ShortString (short_field body) rest (short body) (raw_short body is))
