-- Lemmas on `IsCanonicalOf` and `IsCanonicalWritten`: bytes are the canonical encoding of the value
-- that was read, and are in the buffer.
use Rattle.std.proofs.Common.{◌≡◌, ◌+◌, ◌<◌, ◌≤◌, ◌^◌, ℕ, suc, Bool, true, false, Some, List, ◌∷◌, ◌++◌, length, take, drop, Result, Ok, Err, MatchResult, refl, sym, ap, ◌∙◌, subst, arith, inr, length-append, if◌then◌else◌}
use Rattle.std.proofs.lemmas.List.{take_at}
use Rattle.amqp_value_core.specs.declared.types.amqp_type.AMQPType.{AMQPType}
use Rattle.amqp_value_core.specs.declared.types.amqp_type.AMQPType.TheVariants as amqp
use Rattle.amqp_value_core.specs.Grammar.{Wire, wire, Raw, raw_fixed, raw_short, raw_long, raw_octets, raw_array, raw_table}
use Rattle.amqp_value_core.specs.Ids.{kind, id_of}
use Rattle.amqp_value_core.specs.Bytes.{IsBytes}
use Rattle.amqp_value_core.specs.Layouts.{fixed}
use Rattle.amqp_value_core.specs.Outcomes.{found}
use Rattle.amqp_value_core.specs.Texts.{text, size, payload, Fits}
use Rattle.amqp_value_core.specs.Values.{Tree, type_of}
use Rattle.amqp_value_core.proofs.Bytes.{bytes_before}
use Rattle.amqp_value_core.proofs.GrammarLaws.{canon_is_text, prefix_within, bounded_wire, wire_of}
use Rattle.amq_protocol_types.specs.declared.parsing.within.Limits.{Limits}
use Rattle.amq_protocol_types.specs.parsing.Limits.{Within}
use Rattle.amqp_in_place.specs.declared.refs.ValueRef.{ValueRef}
use Rattle.amqp_in_place.specs.Canonicals.{IsCanonicalLen}
use Rattle.amqp_in_place.specs.Refs.{Denotes}
use Rattle.amqp_in_place.proofs.Reading.{one_value}
use Rattle.amqp_c.specs.declared.fault.Fault.{Fault}
use Rattle.amqp_c.specs.declared.input.Input.{Input}
use Rattle.amqp_c.specs.CallResults.{IsPutAtStart, LacksRoom}
use Rattle.amqp_c.specs.Inputs.{limits, is_untagged, encoding}
use Rattle.amqp_c.specs.Reads.{IsViewOf}
use Rattle.amqp_c_alloc.specs.CanonicalCalls.{IsValueReadWithin, IsCanonicalText, IsCanonicalOf, IsNotCanonical, IsCanonicalWritten, IsCanonicalFault}

-- ---- a type tag that the input lacks

first_same : (c d : ℕ) (s t : List ℕ) → c ∷ s ≡ d ∷ t → c ≡ d
first_same c d s t e = cc

one_type : (type other : AMQPType) → Some type ≡ Some other → type ≡ other
one_type type other e = cc

table_payload : (type : AMQPType) (b : List ℕ) (v : Tree) → type ≡ amqp.FieldTable → Raw type b v → type_of v ≡ amqp.FieldTable
table_payload _ _ _ is (raw_fixed type f b row wide) =
    let none : fixed amqp.FieldTable ≡ Some f = ap fixed (sym is) ∙ row in
    absurd cc
table_payload _ _ _ is (raw_short s fits) = absurd cc
table_payload _ _ _ is (raw_long s fits) = absurd cc
table_payload _ _ _ is (raw_octets s fits) = absurd cc
table_payload _ _ _ is (raw_array body vs fits all) = absurd cc
table_payload _ _ _ is (raw_table body ps es fits all mean) = refl

-- the value after a table's type tag is a table
table_after_tag : (w rest s : List ℕ) (v : Tree) → 70 ∷ s ≡ w ++ rest → Wire w v → type_of v ≡ amqp.FieldTable
table_after_tag _ rest s _ e (wire c type b v is raw) =
    let tag : 70 ≡ c = first_same 70 c s (b ++ rest) e in
    table_payload type b v (one_type type amqp.FieldTable (sym is ∙ ap kind (sym tag))) raw

-- what is after a table's type tag
abbrev tagged_if : Bool → List ℕ → List ℕ
tagged_if b s = if b then 70 ∷ s else s

text_tagged : (b : Bool) (l : Limits) (s rest : List ℕ) (v : Tree) → Within l (tagged_if b s) (found v rest) → tagged_if b (drop (if b then 1 else 0) (text v)) ≡ text v
text_tagged true l s rest v x =
    let f = prefix_within l.depth (70 ∷ s) rest v x.1 in
    let is = table_after_tag f.0 rest s v f.2 (wire_of l.depth f.0 v f.1) in
    ap (λ (type : AMQPType). id_of type ∷ payload v) (sym is)
text_tagged false l s rest v x = refl

few_more : (b : Bool) (s : List ℕ) → length (tagged_if b s) ≤ 1 + length s
few_more true s = omega arith
few_more false s = omega arith

pub take_more : (n c : ℕ) (s : List ℕ) → take (1 + n) (c ∷ s) ≡ c ∷ take n s
take_more n c s =
    let same : 1 + n ≡ suc n = omega arith in
    ap (λ (m : ℕ). take m (c ∷ s)) same

pub not_canonical : (l m : Limits) (s t : List ℕ) → l ≡ m → s ≡ t → IsNotCanonical l s → IsNotCanonical m t
not_canonical l m s t e same none = subst (IsNotCanonical m) same (subst (λ (k : Limits). IsNotCanonical k s) e none)

-- ---- what is put

module _ (l : Limits) (s : List ℕ) where
  -- a canonical encoding is no longer than what was read
  is_read : (rest : List ℕ) (v : Tree) → Within l s (found v rest) → IsValueReadWithin l s v rest
  is_read rest v x =
      let f = prefix_within l.depth s rest v x.1 in
      (x, omega (arith, (bounded_wire f.0 v (wire_of l.depth f.0 v f.1)).size, ap length f.2, length-append f.0 rest))

  -- what is at the start is the canonical encoding, if it is canonical
  pub canonical_prefix : (n : ℕ) → IsBytes s → IsCanonicalLen l s n → IsCanonicalText l s (take n s)
  canonical_prefix n bytes (w, rest, v, e, size, is, x) =
      let prefix : take n s ≡ w = ap (take n) e ∙ take_at w rest n size in
      let of_bytes : IsBytes w = bytes_before w rest (subst IsBytes e bytes) in
      record { value = v; rest = rest; read = is_read rest v x; same = prefix ∙ canon_is_text w v of_bytes is }

module _ (input : Input) where
  pub put_canonical : (bytes old new : List ℕ) (r : Result ℕ Fault) → IsCanonicalOf input bytes → MatchResult r (IsPutAtStart bytes old new) (LacksRoom (length bytes) (length old))
      → MatchResult r (IsCanonicalWritten input old new) (IsCanonicalFault input (length old))
  put_canonical bytes old new (Ok n) is put = (bytes, is, put)
  put_canonical bytes old new (Err f) is lacks = inr (inr (bytes, is, lacks))

  -- what is written of a value that was read
  module _ (view : ValueRef) (rest : List ℕ) (v : Tree) (read : IsViewOf (limits input) (encoding input) view rest) (is : Denotes view v) where
    pub within : Within (limits input) (encoding input) (found v rest)
    within =
        let (bytes, inside, (u, denotes, x)) = read in
        subst (λ (t : Tree). Within (limits input) (encoding input) (found t rest)) (one_value view u v denotes is) x

    pub fits_again : length input.bytes.now < 2 ^ 63 → Fits v × (size v < 2 ^ 64)
    fits_again few =
        let f = prefix_within input.max_depth (encoding input) rest v within.1 in
        let bound = bounded_wire f.0 v (wire_of input.max_depth f.0 v f.1) in
        (bound.fits, omega (arith, few, bound.size, few_more (is_untagged input) input.bytes.now, ap length f.2, length-append f.0 rest))

    pub canonical_text : (bytes : List ℕ) → bytes ≡ drop (if is_untagged input then 1 else 0) (text v) → IsCanonicalOf input bytes
    canonical_text bytes same = record {
      value = v;
      rest = rest;
      read = is_read (limits input) (encoding input) rest v within;
      same = ap (tagged_if (is_untagged input)) same ∙ text_tagged (is_untagged input) (limits input) input.bytes.now rest v within;
    }
