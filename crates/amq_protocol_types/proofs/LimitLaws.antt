-- `laws_within`: the laws of reading within limits hold. What was read is read again, and more
-- bytes don't change the outcome, except for what is left and how many are missing.
use Rattle.std.proofs.Common.{◌≡◌, ◌-◌, ℕ, suc, List, [], ◌++◌, length, Result, Ok, Err, MatchResult, IfOk, ap, ◌∙◌, subst, arith, length-append, ◌<◌, ◌≤◌, ◌∷◌, Option, Some, None, refl}
use Rattle.amqp_value_core.specs.Values.{Tree}
use Rattle.amqp_value_core.specs.Layouts.{fixed}
use Rattle.amqp_value_core.specs.Grammar.{Wire, wire}
use Rattle.amqp_value_core.specs.Headline.{IsWritableIn}
use Rattle.amqp_value_core.specs.Texts.{text}
use Rattle.amqp_value_core.specs.Bytes.{IsBytes}
use Rattle.amqp_value_core.specs.Outcomes.{found, length_field, Reading, more, unknown, malformed, StillWaits, with_more}
use Rattle.amqp_value_core.proofs.Bytes.{bytes_before}
use Rattle.amqp_value_core.proofs.GrammarLaws.{wire_of, prefix_within, bounded_wire, wire_found_within, text_within, text_again, depth_within, bounds, injective, payload_extent-raw, outcome_holds, outcome_is, within_holds, one_outcome_within, more_bytes_within, deep_enough}
use Rattle.amq_protocol_types.specs.declared.parsing.within.Limits.{Limits}
use Rattle.amq_protocol_types.specs.parsing.Refusals.{Refusal}
use Rattle.amq_protocol_types.specs.parsing.Headers.{raw_extent, extent_at, extent, wanted_at, wanted}
use Rattle.amq_protocol_types.specs.parsing.Limits.{Within, RefusesWithin, IsReadAgain, ReadsBack, IsShortestWithin, TellsApartWithin, IsReadWithin, HasOneOutcomeWithin, KeepsOutcomeWithin, LawsWithin}
use Rattle.amq_protocol_types.proofs.Extents.{whole_extent, raw_extent-whole, raw_extent-le, nothing_wanted}
use Rattle.amqp_value_core.specs.declared.types.amqp_type.AMQPType.{AMQPType}
use Rattle.amqp_value_core.specs.Ids.{kind}
use Rattle.amqp_value_core.specs.Nesting.{WireWithin}
use Rattle.amqp_value_core.specs.Decode.{outcome_by, meaning, compute_outcome}
use Rattle.amq_protocol_types.specs.declared.parsing.errors.Err.TheVariants.{Error}
use Rattle.amq_protocol_types.specs.declared.parsing.errors.ErrorKind.{ErrorKind}
use Rattle.amq_protocol_types.specs.declared.parsing.errors.ErrorKind.TheVariants.{MapOpt, MapRes, Eof, OutOfMemory, TooLarge}
use Rattle.amq_protocol_types.specs.parsing.ParseResults.{HasOneOutcome}
use Rattle.amq_protocol_types.proofs.MissingBytes.{wanted_more, extent-append}

-- the least extent of what begins with an encoding is the encoding's length
pub wire_extent : (w t : List ℕ) (v : Tree) → Wire w v → extent (w ++ t) ≡ length w
wire_extent _ t _ (wire c type b v k p) =
    let raw : raw_extent type (b ++ t) ≡ length b = whole_extent (fixed type) (length_field type) (b ++ t) (length b) (payload_extent-raw type b t v p) (omega (arith, length-append b t)) in
    ap (λ o. extent_at o (b ++ t)) k ∙ ap suc raw

-- a canonical encoding that keeps to the limits is read within them
pub reads_back : (l : Limits) → ReadsBack l
reads_back l v is fits readable deep small = λ t.
    let p = text_within l.depth v deep is fits readable in
    (omega (arith, small, wire_extent (text v) t v (wire_of l.depth (text v) v p)), wire_found_within l.depth (text v) t v p)

-- the canonical encoding is a shortest encoding of its value within a depth, and of no other value
shortest_within : (d : ℕ) (v : Tree) → IsShortestWithin d v
shortest_within d v = λ w bytes p. (text_again d w v bytes p, (bounds w v (wire_of d w v p)).0)

tells_apart_within : (d : ℕ) (v : Tree) → TellsApartWithin d v
tells_apart_within d v = λ u w x bytes_w bytes_x p q. injective v u w x bytes_w bytes_x (wire_of d w v p) (wire_of d x u q)

-- what was read within limits is read again within them
read_again : (l : Limits) (s rest : List ℕ) (v : Tree) → IsBytes s → Within l s (found v rest) → IsReadAgain l v
read_again l s rest v bytes (few, x) = λ t.
    let f = prefix_within l.depth s rest v x in
    let w = f.0 in
    let p = wire_of l.depth w v f.1 in
    let again = text_again l.depth w v (bytes_before w rest (subst IsBytes f.2 bytes)) f.1 in
    let small : extent s ≡ length w = ap extent f.2 ∙ wire_extent w rest v p in
    (omega (arith, few, small, wire_extent (text v) t v (wire_of l.depth (text v) v again), (bounds w v p).0), wire_found_within l.depth (text v) t v again)

-- what was read within limits keeps them, and the bytes that it was read from bound it
what_was_read : (l : Limits) (s rest : List ℕ) (v : Tree) → IsBytes s → Within l s (found v rest) → IsReadWithin l (length s - length rest) v
what_was_read l s rest v bytes x =
    let f = prefix_within l.depth s rest v x.1 in
    let w = wire_of l.depth f.0 v f.1 in
    let taken : length f.0 ≡ length s - length rest = omega (arith, ap length f.2, length-append f.0 rest) in
    record {
      frame = omega (arith, x.0, taken, ap extent f.2, wire_extent f.0 rest v w);
      bounded = subst (λ (n : ℕ). IsWritableIn n v) taken (bounded_wire f.0 v w);
      depth = depth_within l.depth f.0 v f.1;
      read_again = read_again l s rest v bytes x;
      shortest = shortest_within l.depth v;
      injective = tells_apart_within l.depth v;
    }

-- so of what a parser returns, which `value` views as a tree
pub read_result : {I V : Type 0} (bytes : I → List ℕ) (value : V → Tree) (l : Limits) (s : List ℕ) (r : Result (I × V) Refusal)
    → MatchResult r (λ x. Within l s (found (value x.1) (bytes x.0))) (RefusesWithin l s) → IsBytes s
    → IfOk r (λ x. IsReadWithin l (length s - length (bytes x.0)) (value x.1))
read_result bytes value l s (Ok x) p is = what_was_read l s (bytes x.0) (value x.1) is p
read_result bytes value l s (Err e) p is = tt

-- ---- what more bytes change

-- more bytes don't make an extent smaller
extent-le : (s t : List ℕ) → extent s ≤ extent (s ++ t)
extent-le [] t = omega arith
extent-le (c ∷ b) t = by (kind c)
  where
    by : (k : Option AMQPType) → extent_at k b ≤ extent_at k (b ++ t)
    by None = omega arith
    by (Some type) = omega (arith, raw_extent-le (fixed type) (length_field type) b t)

-- a complete length-prefixed field's stays, and so does that of what has no type tag
extent-whole : (s t : List ℕ) → wanted s ≡ 0 → extent (s ++ t) ≡ extent s
extent-whole [] t e = absurd cc
extent-whole (c ∷ b) t e = by (kind c) e
  where
    by : (k : Option AMQPType) → wanted_at k b ≡ 0 → extent_at k (b ++ t) ≡ extent_at k b
    by None e = refl
    by (Some type) e = ap suc (raw_extent-whole (fixed type) (length_field type) b t e)

-- more bytes join the rest after a value, are that many fewer that are missing, and leave an error
-- as it is
within_append : (l : Limits) (s t : List ℕ) (o : Reading) → Within l s o → StillWaits o t → Within l (s ++ t) (with_more o t)
within_append l s t (more n) (few, x) fewer =
    (omega (arith, few, extent-append s t (omega (arith, wanted_more (WireWithin l.depth) s n x, fewer))), more_bytes_within l.depth s t (more n) x fewer)
within_append l s t o (few, x) waits = (omega (arith, few, extent-whole s t (nothing_wanted l.depth s o x (λ n e. cc))), more_bytes_within l.depth s t o x waits)

-- and what is too large stays so
too_large_append : (l : Limits) (s t : List ℕ) → l.frame < extent s → l.frame < extent (s ++ t)
too_large_append l s t large = omega (arith, large, extent-le s t)

pub refused_append : (l : Limits) (s t : List ℕ) (k : ErrorKind) → RefusesWithin l s (Error k) → RefusesWithin l (s ++ t) (Error k)
refused_append l s t TooLarge x = too_large_append l s t x
refused_append l s t MapOpt x = within_append l s t unknown x tt
refused_append l s t Eof x = within_append l s t malformed x tt
refused_append l s t MapRes x = absurd x
refused_append l s t OutOfMemory x = absurd x

keeps_outcome_within : (l : Limits) (s : List ℕ) → KeepsOutcomeWithin l s
keeps_outcome_within l s = (λ o t x waits. within_append l s t o x waits, λ t large. too_large_append l s t large)

-- there is one outcome at most
has_one_outcome_within : (l : Limits) (s : List ℕ) → IsBytes s → HasOneOutcomeWithin l s
has_one_outcome_within l s bytes =
    let o = outcome_by (meaning l.depth) s in
    let here = within_holds l.depth s bytes in
    (λ small. (o, (small, here), λ p x. one_outcome_within l.depth s p o x.1 here), λ o large x. omega (arith, large, x.0))

-- so the laws of reading within limits are
pub laws_within : (l : Limits) (s : List ℕ) → IsBytes s → LawsWithin l s
laws_within l s bytes = record {
  one = has_one_outcome_within l s bytes;
  more_bytes = keeps_outcome_within l s;
  read_back = reads_back l;
  deep_enough = deep_enough;
}

-- and without limits
pub has_one_outcome : (s : List ℕ) → IsBytes s → HasOneOutcome s
has_one_outcome s bytes = (compute_outcome s, outcome_holds s bytes, λ p here. (outcome_is s p bytes).0 here)
