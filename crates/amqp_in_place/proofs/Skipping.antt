-- `skip_value`: a head takes `extent` bytes, a container's body included (`skipped`), as many as a
-- value that is read there has (`width_of_found`).
use Rattle.std.proofs.Common.{◌≡◌, ◌+◌, ℕ, suc, List, ◌∷◌, ◌++◌, length, Some, None, refl, ap, ◌∙◌, arith, length-append}
use Rattle.std.specs.Int.{w32}
use Rattle.amqp_value_core.specs.declared.types.amqp_type.AMQPType.{AMQPType}
use Rattle.amqp_value_core.specs.declared.types.amqp_type.AMQPType.TheVariants as amqp
use Rattle.amqp_value_core.specs.Values.{long}
use Rattle.amqp_value_core.specs.Grammar.{long_field, wire, raw_long}
use Rattle.amqp_value_core.specs.Outcomes.{Reading, more, unknown, Outcome}
use Rattle.amqp_value_core.proofs.GrammarLaws.{wire_of, found_prefix, prefix_within, unlimited}
use Rattle.amqp_value_core.specs.Bytes.{slice_bytes}
use Rattle.amq_protocol_types.specs.parsing.Refusals.{Refusal}
use Rattle.amq_protocol_types.specs.parsing.PayloadResults.{IsType}
use Rattle.amq_protocol_types.specs.parsing.Bodies.{IsLengthPrefixed}
use Rattle.amq_protocol_types.specs.declared.parsing.errors.Err.TheVariants.{Incomplete, Error, Failure}
use Rattle.amq_protocol_types.specs.declared.parsing.errors.Needed.TheVariants.{Unknown, Size}
use Rattle.amq_protocol_types.specs.parsing.Headers.{extent_of, extent_at, extent}
use Rattle.amq_protocol_types.proofs.ParsingLaws.{wire_extent}
use Rattle.amqp_in_place.specs.InPlaceResults.{IsWidthOfFound, HeadRefuses}
use Rattle.amqp_in_place.specs.declared.head.Head.{Head}
use Rattle.amqp_in_place.specs.declared.head.Head.TheVariants as head
use Rattle.amqp_in_place.specs.Refs.{plain_tree}
use Rattle.amqp_in_place.specs.Heads.{IsHead, AtAnyDepth}
use Rattle.amqp_in_place.proofs.HeadLemmas.{plain_read}

-- the extent of a length-prefixed field is that of a long string with the same bytes
pub frame_extent : (s mid body rest : List ℕ) (type : AMQPType) → IsType s type mid → IsLengthPrefixed mid body rest → extent_at (Some type) mid ≡ suc (extent_of None w32 mid)
    → extent s + length rest ≡ length s
frame_extent s mid body rest type p f is =
    let string = wire_extent (83 ∷ long_field body) rest (long body) (wire 83 amqp.LongString (long_field body) (long body) refl (raw_long body f.fits)) in
    let here : extent s ≡ suc (extent_of None w32 mid) = ap extent p.1 ∙ (ap (λ o. extent_at o mid) p.2 ∙ is) in
    let there : extent_of None w32 mid ≡ extent_of None w32 (long_field body ++ rest) = ap (extent_of None w32) f.framed in
    let whole : suc (extent_of None w32 (long_field body ++ rest)) ≡ suc (length (long_field body)) = string in
    omega (arith, here, there, whole, ap length p.1, ap length f.framed, length-append (long_field body) rest)

pub skipped : (s : List ℕ) (h : Head) (rest : List ℕ) → IsHead s h rest → extent s + length rest ≡ length s
skipped s (head.Plain r) rest is =
    let f = prefix_within 0 s rest (plain_tree r) (plain_read s r rest is 0) in
    omega (arith, ap extent f.2, wire_extent f.0 rest (plain_tree r) (wire_of 0 f.0 (plain_tree r) f.1), ap length f.2, length-append f.0 rest)
skipped s (head.FieldArray i) rest (type, mid, p, q) = frame_extent s mid (slice_bytes i) rest type p q.1 (ap (λ t. extent_at (Some t) mid) q.0)
skipped s (head.FieldTable i) rest (type, mid, p, q) = frame_extent s mid (slice_bytes i) rest type p q.1 (ap (λ t. extent_at (Some t) mid) q.0)

-- if a value is found it takes that many
pub width_of_found : (s : List ℕ) (n : ℕ) → n ≡ extent s → IsWidthOfFound s n
width_of_found s n e v rest x =
    let f = found_prefix s rest v x in
    omega (arith, e, ap extent f.2, wire_extent f.0 rest v f.1, ap length f.2, length-append f.0 rest)

-- what is rejected whatever the limit on depth is rejected without a limit
at_no_depth : (s : List ℕ) (o : Reading) → AtAnyDepth s o → Outcome s o
at_no_depth s o y = unlimited (length s) s o (omega arith) (y (length s))

pub refused_so : (s : List ℕ) (e : Refusal) → HeadRefuses (AtAnyDepth s) e → HeadRefuses (Outcome s) e
refused_so s (Incomplete Unknown) x = x
refused_so s (Incomplete (Size n)) x = at_no_depth s (more n) x
refused_so s (Error k) x = (x.0, at_no_depth s unknown x.1)
refused_so s (Failure k) x = x
