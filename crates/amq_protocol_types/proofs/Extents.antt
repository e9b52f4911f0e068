-- Lemmas on the `extent` of a value, how many bytes it has at least by its type tag and length
-- field, and on `IsWholeValue`, that all its bytes are there.
use Rattle.std.proofs.Common.{◌≡◌, ◌+◌, ◌<◌, ◌≤◌, ℕ, List, [], ◌++◌, length, Option, Some, None, refl, sym, ◌∙◌, arith, inl, inr, length-append, suc, ◌∷◌, ap, subst}
use Rattle.std.specs.Int.{Width, byte_len}
use Rattle.std.proofs.lemmas.Bool.{cases_lt, lt-ltb, le-ltb}
use Rattle.std.specs.Prelude.{MatchOption}
use Rattle.amqp_value_core.specs.Layouts.{Layout}
use Rattle.amqp_value_core.specs.Outcomes.{counted, lack_of, Reading, lack, found, more, no_byte, no_tag, needs_more, at_start, not_at_start, RawHeavy, Heavy}
use Rattle.amqp_value_core.proofs.GrammarLaws.{counted-append, payload_extent_of, payload_extent_of-whole, payload_extent_of-append, wire_of, lack-raw, prefix_within}
use Rattle.amq_protocol_types.specs.parsing.Headers.{extent_of, extent_at, extent, wanted_at, wanted, IsWholeValue}
use Rattle.amqp_value_core.specs.declared.types.amqp_type.AMQPType.{AMQPType}
use Rattle.amqp_value_core.specs.Ids.{kind}
use Rattle.amqp_value_core.specs.Values.{Tree}
use Rattle.amqp_value_core.specs.Nesting.{OutcomeWithin}
use Rattle.amqp_value_core.specs.Grammar.{Wire, wire}
use Rattle.amq_protocol_types.specs.declared.parsing.errors.Err.TheVariants.{Failure}
use Rattle.amq_protocol_types.specs.declared.parsing.errors.ErrorKind.{ErrorKind}
use Rattle.amq_protocol_types.specs.declared.parsing.within.Limits.{Limits}
use Rattle.amq_protocol_types.specs.parsing.Limits.{Within, RefusesWithin}

pub extent_cut : (w : Width) (b : List ℕ) → length b < byte_len w → extent_of None w b ≡ byte_len w
extent_cut w b cut = rw (lt-ltb (length b) (byte_len w) cut) refl

pub extent_known : (w : Width) (b : List ℕ) → byte_len w ≤ length b → extent_of None w b ≡ byte_len w + counted w b
extent_known w b known = rw (le-ltb (length b) (byte_len w) known) refl

-- if the length field is complete, a payload's least extent is its extent
pub whole_extent : (o : Option Layout) (w : Width) (b : List ℕ) (n : ℕ) → payload_extent_of o w b ≡ n → n ≤ length b → extent_of o w b ≡ n
whole_extent (Some f) w b n e le = e
whole_extent None w b n e le = extent_known w b (omega arith) ∙ e

-- so more bytes don't change it
pub raw_extent-whole : (o : Option Layout) (w : Width) (b t : List ℕ) → lack_of o w b ≡ 0 → extent_of o w (b ++ t) ≡ extent_of o w b
raw_extent-whole o w b t whole =
    let reached = payload_extent_of-whole o w b whole in
    whole_extent o w (b ++ t) (payload_extent_of o w b) (payload_extent_of-append o w b t whole) (omega (arith, reached, length-append b t))
    ∙ sym (whole_extent o w b (payload_extent_of o w b) refl reached)

-- more bytes don't make it smaller
pub raw_extent-le : (o : Option Layout) (w : Width) (b t : List ℕ) → extent_of o w b ≤ extent_of o w (b ++ t)
raw_extent-le (Some f) w b t = omega arith
raw_extent-le None w b t = elim (cases_lt (length b) (byte_len w)) [
  | inl cut ↦ elim (cases_lt (length (b ++ t)) (byte_len w)) [
    | inl still ↦ omega (arith, extent_cut w b cut, extent_cut w (b ++ t) still)
    | inr known ↦ omega (arith, extent_cut w b cut, extent_known w (b ++ t) known)
  ]
  | inr known ↦ omega (arith, extent_known w b known, extent_known w (b ++ t) (omega (arith, length-append b t)), counted-append w b t known)
]

-- all are there if an encoding is at the start
pub wire_whole : (w rest : List ℕ) (v : Tree) → Wire w v → IsWholeValue (w ++ rest)
wire_whole _ rest _ (wire c type b v k p) =
    subst (λ (o : Option AMQPType). MatchOption o ⊥ (λ type. lack type (b ++ rest) ≡ 0)) (sym k) (lack-raw type b rest v p)

-- and then none are missing
pub whole_wants_none : (s : List ℕ) → IsWholeValue s → wanted s ≡ 0
whole_wants_none [] whole = absurd whole
whole_wants_none (c ∷ b) whole = by (kind c) whole
  where
    by : (k : Option AMQPType) → MatchOption k ⊥ (λ type. lack type b ≡ 0) → wanted_at k b ≡ 0
    by None whole = absurd whole
    by (Some type) whole = whole

-- if none are missing they are all there, since the first byte is a type tag if the value has an extent
pub whole_by_header : (s : List ℕ) → wanted s ≡ 0 → 0 < extent s → IsWholeValue s
whole_by_header [] none some = absurd (omega (arith, some))
whole_by_header (c ∷ b) none some = by (kind c) none some
  where
    by : (k : Option AMQPType) → wanted_at k b ≡ 0 → 0 < extent_at k b → MatchOption k ⊥ (λ type. lack type b ≡ 0)
    by None none some = absurd (omega (arith, some))
    by (Some type) none some = none

-- if an outcome asks for no more bytes, none are missing
pub nothing_wanted : (d : ℕ) (s : List ℕ) (o : Reading) → OutcomeWithin d s o → ((m : ℕ) → o ≡ more m → ⊥) → wanted s ≡ 0
nothing_wanted d _ _ no_byte no_more = absurd (no_more 1 refl)
nothing_wanted d _ _ (no_tag c b k) no_more = ap (λ (o : Option AMQPType). wanted_at o b) k
nothing_wanted d _ _ (needs_more c type b n k e) no_more = absurd (no_more (suc n) refl)
nothing_wanted d _ _ (at_start w rest v p) no_more = whole_wants_none (w ++ rest) (wire_whole w rest v (wire_of d w v p))
nothing_wanted d _ _ (not_at_start c type b k e none) no_more = ap (λ (o : Option AMQPType). wanted_at o b) k ∙ e

-- and if reading allocates
heavy_whole : (s : List ℕ) → Heavy s → IsWholeValue s
heavy_whole [] h = absurd h
heavy_whole (c ∷ b) h = by (kind c) h
  where
    by : (k : Option AMQPType) → MatchOption k ⊥ (λ type. RawHeavy type b) → MatchOption k ⊥ (λ type. lack type b ≡ 0)
    by None none = absurd none
    by (Some type) heavy = heavy.1

-- so they are whenever reading within limits allocates, or returns a value
pub found_all : (l : Limits) (s rest : List ℕ) (v : Tree) → Within l s (found v rest) → (extent s ≤ l.frame) × IsWholeValue s
found_all l s rest v x =
    let p = prefix_within l.depth s rest v x.1 in
    (x.0, subst IsWholeValue (sym p.2) (wire_whole p.0 rest v (wire_of l.depth p.0 v p.1)))

pub failed_all : (l : Limits) (s : List ℕ) (kind : ErrorKind) → RefusesWithin l s (Failure kind) → (extent s ≤ l.frame) × IsWholeValue s
failed_all l s kind x = (x.0, heavy_whole s x.1.1)
