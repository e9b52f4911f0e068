-- Lemmas on `wanted`, how many bytes are missing of a value, and on `IsWaiting`, that each shorter
-- prefix lacks some, as more bytes come.
use Rattle.std.proofs.Common.{◌≡◌, ◌<◌, ◌≤◌, ◌+◌, ◌-◌, ℕ, zero, suc, List, [], ◌∷◌, ◌++◌, length, take, Option, Some, None, refl, sym, ap, ap₂, ◌∙◌, subst, arith, inl, inr, length-append}
use Rattle.std.specs.Option.{IfSome}
use Rattle.std.specs.Int.{Width, byte_len}
use Rattle.std.proofs.lemmas.Bool.{cases_lt}
use Rattle.std.proofs.lemmas.List.{take-append-le, take_at, drop_at, nil_from_length, length-take-le, append-nil}
use Rattle.amqp_value_core.specs.declared.types.amqp_type.AMQPType.{AMQPType}
use Rattle.amqp_value_core.specs.Values.{Tree}
use Rattle.amqp_value_core.specs.Ids.{kind}
use Rattle.amqp_value_core.specs.Layouts.{Layout, fixed}
use Rattle.amqp_value_core.specs.Grammar.{Wire}
use Rattle.amqp_value_core.specs.Nesting.{WireWithin, OutcomeWithin}
use Rattle.amq_protocol_types.specs.declared.parsing.within.Limits.{Limits}
use Rattle.amq_protocol_types.specs.parsing.Refusals.{lacks}
use Rattle.amq_protocol_types.specs.parsing.Limits.{RefusesWithin}
use Rattle.amqp_value_core.specs.Outcomes.{found, more, length_field, lack_of, lack, OutcomeBy, no_byte, needs_more}
use Rattle.amqp_value_core.proofs.GrammarLaws.{wire_of, more_bytes, prefix_within, first_within, fields_lack_cut, fields_lack_known, frame_lack_cut, frame_lack_known, counted-append}
use Rattle.amq_protocol_types.specs.parsing.Headers.{extent_of, extent_at, extent, wanted_at, wanted, IsWaiting}
use Rattle.amq_protocol_types.proofs.Extents.{extent_cut, extent_known, wire_whole, whole_wants_none}
use lib.Seq.{take-add}

-- ---- what is missing, and the outcome

-- if bytes are missing, that many are asked for
pub more_wanted : (P : List ℕ → Tree → Type 0) (s : List ℕ) → 0 < wanted s → OutcomeBy P s (more (wanted s))
more_wanted P [] h = no_byte
more_wanted P (c ∷ b) h = by (kind c) refl h
  where
    at : (type : AMQPType) (n : ℕ) → kind c ≡ Some type → lack type b ≡ n → 0 < n → OutcomeBy P (c ∷ b) (more n)
    at type zero k e lt = absurd (omega arith)
    at type (suc n) k e lt = needs_more c type b n k e

    by : (k : Option AMQPType) → kind c ≡ k → 0 < wanted_at k b → OutcomeBy P (c ∷ b) (more (wanted_at k b))
    by None k lt = absurd (omega arith)
    by (Some type) k lt = at type (lack type b) k refl lt

-- what is asked for is missing
pub wanted_more : (P : List ℕ → Tree → Type 0) (s : List ℕ) (n : ℕ) → OutcomeBy P s (more n) → wanted s ≡ n
wanted_more P _ _ no_byte = refl
wanted_more P _ _ (needs_more c type b n k e) = ap (λ (o : Option AMQPType). wanted_at o b) k ∙ e

-- so an error that asks for what is missing is right
pub lacks_within : (l : Limits) (s : List ℕ) (n : ℕ) → (extent s ≤ l.frame) × (0 < n) × (n ≡ wanted s) → RefusesWithin l s (lacks n)
lacks_within l s n h = (h.0, subst (λ (m : ℕ). OutcomeWithin l.depth s (more m)) (sym h.2) (more_wanted (WireWithin l.depth) s (omega (arith, h.1, h.2))))

-- after fewer bytes than are missing, the others are missing
pub wanted-append : (s m : List ℕ) → length m < wanted s → wanted (s ++ m) ≡ wanted s - length m
wanted-append s m lt = wanted_more Wire (s ++ m) (wanted s - length m) (more_bytes s m (more (wanted s)) (more_wanted Wire s (omega arith)) lt)

-- ---- the least extent

-- fewer bytes than are missing of a payload don't change its extent
extent_of-append : (o : Option Layout) (w : Width) (b m : List ℕ) → length m < lack_of o w b → extent_of o w (b ++ m) ≡ extent_of o w b
extent_of-append (Some f) w b m lt = refl
extent_of-append None w b m lt = elim (cases_lt (length b) (byte_len w)) [
  | inl cut ↦
      let lacks = frame_lack_cut w b cut in
      rw (extent_cut w b cut, extent_cut w (b ++ m) (omega (arith, lacks, length-append b m))) refl
  | inr known ↦ omega (arith, extent_known w b known, extent_known w (b ++ m) (omega (arith, length-append b m)), counted-append w b m known)
]

-- nor that of a value
pub extent-append : (s m : List ℕ) → length m < wanted s → extent (s ++ m) ≡ extent s
extent-append [] m lt = ap extent (nil_from_length m (omega arith))
extent-append (c ∷ b) m lt = by (kind c) lt
  where
    by : (k : Option AMQPType) → length m < wanted_at k b
        → extent_at k (b ++ m) ≡ extent_at k b
    by None lt = refl
    by (Some type) lt = ap suc (extent_of-append (fixed type) (length_field type) b m lt)

-- ---- waiting

-- the first n bytes of two lists, if n reaches the second
take_after : (s m : List ℕ) (n : ℕ) → length s ≤ n → take n (s ++ m) ≡ s ++ take (n - length s) m
take_after s m n le =
    let j = n - length s in
    let all : n ≡ length s + j = omega arith in
    ap (λ (k : ℕ). take k (s ++ m)) all ∙ take-add (length s) j (s ++ m)
    ∙ ap₂ (λ (a b : List ℕ). a ++ take j b) (take_at s m (length s) refl) (drop_at s m (length s) refl)

-- as many bytes as are missing, or fewer
pub waits_more : (frame : ℕ) (s m : List ℕ) → IsWaiting frame s → extent s ≤ frame → length m ≤ wanted s → IsWaiting frame (s ++ m)
waits_more frame s m waits within few n lt = elim (cases_lt n (length s)) [
  | inl inside ↦
      rw (take-append-le n s m (omega arith)) (waits n inside)
  | inr after ↦
      let j = n - length s in
      let part = take j m in
      let len : length part ≡ j = length-take-le j m (omega (arith, length-append s m)) in
      let prefix : take n (s ++ m) ≡ s ++ part = take_after s m n after in
      rw prefix (omega (arith, len, wanted-append s part (omega (arith, len, length-append s m)), length-append s m), omega (arith, extent-append s part (omega (arith, len, length-append s m))))
]

-- a value that is found when all before had to wait is all that came
pub nothing_after : (frame d : ℕ) (s : List ℕ) (v : Tree) (rest : List ℕ) → IsWaiting frame s → OutcomeWithin d s (found v rest) → rest ≡ []
nothing_after frame d s v rest waits x =
    let f = prefix_within d s rest v x in
    let w = f.0 in
    let len = ap length f.2 ∙ length-append w rest in
    elim (cases_lt (length w) (length s)) [
      | inl less ↦
          let prefix : take (length w) s ≡ w = ap (take (length w)) f.2 ∙ take_at w rest (length w) refl in
          let lacks : 0 < wanted w = subst (λ (t : List ℕ). 0 < wanted t) prefix (waits (length w) less).0 in
          let none : wanted (w ++ []) ≡ 0 = whole_wants_none (w ++ []) (wire_whole w [] v (wire_of d w v f.1)) in
          absurd (omega (arith, ap wanted (append-nil w)))
      | inr whole ↦ nil_from_length rest (omega arith)
    ]

-- ---- the length-prefixed field

-- what is missing of a payload is within its extent
lack_within : (o : Option Layout) (w : Width) (b : List ℕ) → IfSome o (λ f. f.first ≤ f.width) → 0 < lack_of o w b → length b + lack_of o w b ≤ extent_of o w b
lack_within (Some f) w b fits lt = elim (cases_lt (length b) f.first) [
  | inl cut ↦ omega (arith, fields_lack_cut f b cut)
  | inr known ↦ omega (arith, fields_lack_known f b known)
]
lack_within None w b fits lt = elim (cases_lt (length b) (byte_len w)) [
  | inl cut ↦ omega (arith, frame_lack_cut w b cut, extent_cut w b cut)
  | inr known ↦ omega (arith, frame_lack_known w b known, extent_known w b known)
]

-- so it is of a value whose type tag has come
pub wanted_within : (s : List ℕ) → 0 < length s → 0 < wanted s → length s + wanted s ≤ extent s
wanted_within [] some lt = absurd (omega arith)
wanted_within (c ∷ b) some lt = by (kind c) lt
  where
    by : (k : Option AMQPType) → 0 < wanted_at k b
        → suc (length b) + wanted_at k b ≤ extent_at k b
    by None lt = absurd (omega arith)
    by (Some type) lt = omega (arith, lack_within (fixed type) (length_field type) b (first_within type) lt)

-- what has waited is within the length-prefixed field
pub kept_within : (frame : ℕ) (s : List ℕ) → 0 < frame → IsWaiting frame s → length s ≤ frame
kept_within frame s some waits = elim (cases_lt 1 (length s)) [
  | inl many ↦
      let n = length s - 1 in
      let a = take n s in
      let len : length a ≡ n = length-take-le n s (omega arith) in
      let at = waits n (omega arith) in
      omega (arith, len, at.1, wanted_within a (omega (arith, len)) at.0, at.0)
  | inr few ↦ omega arith
]
