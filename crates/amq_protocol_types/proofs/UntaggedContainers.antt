-- Lemmas for `parse_field_array_within` and `parse_field_table_within`: a container without its
-- type tag is read as the same bytes after the tag are.
use Rattle.std.proofs.Common.{◌≡◌, ◌<◌, ◌≤◌, ℕ, suc, List, ◌++◌, Option, Some, Result, Ok, Err, MatchResult, ap, subst, arith}
use Rattle.amqp_value_core.specs.declared.types.amqp_type.AMQPType.{AMQPType}
use Rattle.amqp_value_core.specs.Ids.{kind, id_of}
use Rattle.amqp_value_core.specs.Values.{Tree}
use Rattle.amqp_value_core.specs.Texts.{payload}
use Rattle.amqp_value_core.specs.Nesting.{OutcomeWithin, RawOutcomeWithin}
use Rattle.amqp_value_core.specs.Outcomes.{found, RawHeavy, Heavy}
use Rattle.amqp_value_core.proofs.GrammarLaws.{raw_to_value_within, value_to_raw_within, raw_to_heavy}
use Rattle.amq_protocol_types.specs.declared.parsing.errors.Err.TheVariants.{Incomplete, Error, Failure}
use Rattle.amq_protocol_types.specs.declared.parsing.errors.Needed.TheVariants.{Unknown, Size}
use Rattle.amq_protocol_types.specs.declared.parsing.errors.ErrorKind.TheVariants.{MapOpt, MapRes, Eof, OutOfMemory, TooLarge}
use Rattle.amq_protocol_types.specs.declared.parsing.within.Limits.{Limits}
use Rattle.amq_protocol_types.specs.parsing.Refusals.{Refusal}
use Rattle.amq_protocol_types.specs.parsing.ParseResults.{IsRefusal}
use Rattle.amq_protocol_types.specs.parsing.Headers.{raw_extent, extent_at, extent}
use Rattle.amq_protocol_types.specs.parsing.Limits.{RefusesWithin}
use Rattle.amq_protocol_types.specs.parsing.Untagged.{tagged, UntaggedWithin, RefusesUntagged, IsPayloadWithin, ReadsPayloadsBack}
use Rattle.amq_protocol_types.proofs.LimitLaws.{reads_back}
use Rattle.amq_protocol_types.proofs.Refusals.{IsRefusal-weaker}

-- an error of reading a value that isn't too large is right within limits
limited_refusal : (l : Limits) (s : List ℕ) (e : Refusal) → extent s ≤ l.frame → IsRefusal (OutcomeWithin l.depth s) (Heavy s) e → RefusesWithin l s e
limited_refusal l s (Incomplete Unknown) few x = absurd x
limited_refusal l s (Incomplete (Size n)) few x = (few, x)
limited_refusal l s (Error MapOpt) few x = (few, x)
limited_refusal l s (Error MapRes) few x = absurd x
limited_refusal l s (Error Eof) few x = (few, x)
limited_refusal l s (Error OutOfMemory) few x = absurd x
limited_refusal l s (Error TooLarge) few x = absurd x
limited_refusal l s (Failure kind) few x = (few, x)

-- the tag that is written for the type is a type tag of it
module _ (l : Limits) (type : AMQPType) (k : kind (id_of type) ≡ Some type) (s : List ℕ) where
  tagged_extent : extent (tagged type s) ≡ suc (raw_extent type s)
  tagged_extent = ap (λ (o : Option AMQPType). extent_at o s) k

  pub payload_within : IsPayloadWithin l type s
  payload_within o = (
    λ x. (omega (arith, tagged_extent, x.0), value_to_raw_within l.depth (id_of type) type s o k x.1),
    λ x. (omega (arith, tagged_extent, x.0), raw_to_value_within l.depth (id_of type) type s o k x.1),
  )

  -- what the parser of the payload returns, over an input that shows `bytes` and values that are
  -- viewed by `value`, is right within limits
  pub untagged_result : {I V : Type 0} (bytes : I → List ℕ) (value : V → Tree) (r : Result (I × V) Refusal) → raw_extent type s < l.frame
      → MatchResult r (λ x. RawOutcomeWithin l.depth type s (found (value x.1) (bytes x.0))) (IsRefusal (RawOutcomeWithin l.depth type s) (RawHeavy type s))
      → MatchResult r (λ x. UntaggedWithin l type s (found (value x.1) (bytes x.0))) (RefusesUntagged l type s)
  untagged_result bytes value (Ok x) few p = (payload_within (found (value x.1) (bytes x.0))).1 (few, p)
  untagged_result bytes value (Err e) few p =
      limited_refusal l (tagged type s) e (omega (arith, tagged_extent, few))
      (IsRefusal-weaker (RawOutcomeWithin l.depth type s) (OutcomeWithin l.depth (tagged type s)) (RawHeavy type s) (Heavy (tagged type s)) e
      (λ o x. raw_to_value_within l.depth (id_of type) type s o k x) (λ x. raw_to_heavy (id_of type) type s k x) p)

-- a payload that was written is read back: after its type tag it is the canonical encoding
pub reads_payloads_back : (l : Limits) (type : AMQPType) → ReadsPayloadsBack l type
reads_payloads_back l type v t e is fits readable deep small =
    subst (λ (type : AMQPType). UntaggedWithin l type (payload v ++ t) (found v t)) e (reads_back l v is fits readable deep small t)
