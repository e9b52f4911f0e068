-- Lemmas on reading a value with its type tag: it results in what reading its payload does.
use Rattle.std.proofs.Common.{◌-◌, length, IfOk, ◌≡◌, ◌∙◌, ℕ, List, None, Some, Result, Ok, Err, MatchResult, sym, subst}
use Rattle.amqp_value_core.specs.declared.types.amqp_type.AMQPType.{AMQPType}
use Rattle.amqp_value_core.specs.declared.types.amqp_type.AMQPType.TheVariants as amqp
use Rattle.amqp_value_core.specs.declared.value.AMQPValue.{AMQPValue}
use Rattle.amqp_value_core.specs.Names.{read_as}
use Rattle.amqp_value_core.specs.Grammar.{Wire}
use Rattle.amqp_value_core.specs.Outcomes.{RawOutcome, Reading, found, more, malformed, Outcome, RawHeavy, Heavy}
use Rattle.amqp_value_core.specs.View.{view}
use Rattle.amqp_value_core.specs.Nesting.{OutcomeWithin, RawOutcomeWithin}
use Rattle.amqp_value_core.specs.Headline.{IsWritableIn}
use Rattle.amqp_value_core.proofs.GrammarLaws.{raw_to_value_within, raw_to_value, raw_to_heavy, bounded_found}
use Rattle.amq_protocol_types.specs.declared.parsing.errors.Err.TheVariants.{Incomplete, Error, Failure}
use Rattle.amq_protocol_types.specs.declared.parsing.errors.Needed.TheVariants.{Unknown, Size}
use Rattle.amq_protocol_types.specs.declared.parsing.errors.ErrorKind.{ErrorKind}
use Rattle.amq_protocol_types.specs.declared.parsing.errors.ErrorKind.TheVariants.{Eof}
use Rattle.amq_protocol_types.specs.parsing.Refusals.{Refusal}
use Rattle.amq_protocol_types.specs.parsing.PayloadResults.{IsType, IsNoType, bad_kind, RawRefuses}
use Rattle.amq_protocol_types.specs.parsing.ParseResults.{IsRefusal, Refuses}
use Rattle.amq_protocol_types.proofs.Refusals.{IsRefusal-weaker, no_type_by}
use Rattle.amq_protocol_types.proofs.Payloads.{eof_of_type}

-- the type tag of the type is read from s, and `rest` is left
module _ (d : ℕ) (s rest : List ℕ) (type : AMQPType) (p : IsType s type rest) where
  -- what reading the payload results in, reading the value does
  typed_outcome : (o : Reading) → RawOutcomeWithin d type rest o → OutcomeWithin d s o
  typed_outcome o x = subst (λ (t : List ℕ). OutcomeWithin d t o) (sym p.1) (raw_to_value_within d p.0 type rest o p.2 x)

  -- the value allocates if the payload does
  typed_heavy : RawHeavy type rest → Heavy s
  typed_heavy x = subst Heavy (sym p.1) (raw_to_heavy p.0 type rest p.2 x)

  -- what the parser of the payload returns, over an input that shows `bytes`, is right of the value
  pub typed_result : {I : Type 0} (bytes : I → List ℕ) (r : Result (I × AMQPValue) Refusal)
      → MatchResult r (λ x. RawOutcomeWithin d type rest (found (view x.1) (bytes x.0))) (IsRefusal (RawOutcomeWithin d type rest) (RawHeavy type rest))
      → MatchResult r (λ x. OutcomeWithin d s (found (view x.1) (bytes x.0))) (IsRefusal (OutcomeWithin d s) (Heavy s))
  typed_result bytes (Ok x) p = typed_outcome (found (view x.1) (bytes x.0)) p
  typed_result bytes (Err e) p =
      IsRefusal-weaker (RawOutcomeWithin d type rest) (OutcomeWithin d s) (RawHeavy type rest) (Heavy s) e typed_outcome typed_heavy p

-- so it is without a limit, if the type isn't a short string's
module _ (s rest : List ℕ) (type : AMQPType) (p : IsType s type rest) (tagged : read_as type ≡ Some type) where
  value_outcome : (o : Reading) → RawOutcome type rest o → Outcome s o
  value_outcome o x = subst (λ (t : List ℕ). Outcome t o) (sym p.1) (raw_to_value p.0 type rest o p.2 x)

  -- the only kind of error that a payload has is that of a value
  is_eof : (kind : ErrorKind) → kind ≡ bad_kind type → kind ≡ Eof
  is_eof kind e = e ∙ eof_of_type type (λ short. let no : None ≡ Some amqp.ShortString = subst (λ (t : AMQPType). read_as t ≡ Some t) short tagged in cc)

  value_refused : (e : Refusal) → RawRefuses type rest e → Refuses s e
  value_refused (Incomplete Unknown) x = x
  value_refused (Incomplete (Size n)) x = value_outcome (more n) x
  value_refused (Error kind) (e, x) = subst (λ (k : ErrorKind). Refuses s (Error k)) (sym (is_eof kind e)) (value_outcome malformed x)
  value_refused (Failure kind) (e, h) = (e, subst Heavy (sym p.1) (raw_to_heavy p.0 type rest p.2 h))

  pub value_result : {I : Type 0} (bytes : I → List ℕ) (r : Result (I × AMQPValue) Refusal)
      → MatchResult r (λ x. RawOutcome type rest (found (view x.1) (bytes x.0))) (RawRefuses type rest)
      → MatchResult r (λ x. Outcome s (found (view x.1) (bytes x.0))) (Refuses s)
  value_result bytes (Ok x) y = value_outcome (found (view x.1) (bytes x.0)) y
  value_result bytes (Err e) y = value_refused e y

-- if no type is read, no value is
pub no_value : (s : List ℕ) (e : Refusal) → IsRefusal (IsNoType s) ⊥ e → Refuses s e
no_value s e x = IsRefusal-weaker (IsNoType s) (Outcome s) ⊥ (Heavy s) e (no_type_by Wire s) (λ none. absurd none) x

-- what was read keeps to the number of bytes that it was read from
pub bounded_result : {I : Type 0} (bytes : I → List ℕ) (s : List ℕ) (r : Result (I × AMQPValue) Refusal)
    → MatchResult r (λ x. Outcome s (found (view x.1) (bytes x.0))) (Refuses s)
    → IfOk r (λ x. IsWritableIn (length s - length (bytes x.0)) (view x.1))
bounded_result bytes s (Ok x) p = bounded_found s (bytes x.0) (view x.1) p
bounded_result bytes s (Err e) p = tt
