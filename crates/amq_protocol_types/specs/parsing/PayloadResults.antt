-- What the parsers of one type return: `ReadsNumber` and `ReadsScalar` for types of fixed width,
-- `IsType` for a type tag, and `RawRefuses` for errors of any payload.
use Rattle.std.specs.Prelude.{ℕ, ◌<◌, ◌-◌, ◌≡◌, Some, None, List, [], ◌∷◌, ◌++◌, length, Result, MatchResult}
use Rattle.std.specs.Int.{Width, byte_len, to_be_bytes}
use Rattle.amqp_value_core.specs.declared.types.amqp_type.AMQPType.{AMQPType}
use Rattle.amqp_value_core.specs.declared.types.amqp_type.AMQPType.TheVariants as amqp
use Rattle.amqp_value_core.specs.Ids.{kind}
use Rattle.amqp_value_core.specs.Outcomes.{Reading, more, unknown, malformed, RawHeavy, RawOutcome, found}
use Rattle.amq_protocol_types.specs.declared.parsing.errors.ErrorKind.{ErrorKind}
use Rattle.amq_protocol_types.specs.declared.parsing.errors.ErrorKind.TheVariants.{MapRes, Eof}
use Rattle.amq_protocol_types.specs.parsing.Refusals.{Refusal}
use Rattle.amq_protocol_types.specs.parsing.ParseResults.{RefusesAs, IsRefusal}
use Rattle.amqp_value_core.specs.Values.{Scalar, scalar, number}

-- A parser may return the error.
-- Its only errors are that more bytes are needed, and that an allocation failed.
abbrev pub OnlyLacks : (Reading → Type 0) → Type 0 → Refusal → Type 0
OnlyLacks Is heavy e = RefusesAs (λ _. ⊥) Is heavy e

-- The kind of error if a length-prefixed field is complete and isn't a payload of the type.
-- A short string's bytes aren't UTF-8, and a container's aren't entries.
abbrev pub bad_kind : AMQPType → ErrorKind
bad_kind amqp.ShortString = MapRes
bad_kind _ = Eof

-- reading a payload of the type from s may return the error
abbrev pub RawRefuses : AMQPType → List ℕ → Refusal → Type 0
RawRefuses type s e = RefusesAs (λ kind. (kind ≡ bad_kind type) × RawOutcome type s malformed) (RawOutcome type s) (RawHeavy type s) e

-- a type is read from s, and `rest` is left: the first byte is a type tag of it
abbrev pub IsType : List ℕ → AMQPType → List ℕ → Type 0
IsType s type rest = (c : ℕ) × (s ≡ c ∷ rest) × (kind c ≡ Some type)

-- no type is read from s: there is no byte, or the first isn't a type tag
abbrev pub IsNoType : List ℕ → Reading → Type 0
IsNoType [] o = o ≡ more 1
IsNoType (c ∷ b) o = (o ≡ unknown) × (kind c ≡ None)

-- n is read from s, and `rest` is left: the first bytes are those of n, big-endian
abbrev pub IsNumberRead : Width → List ℕ → ℕ → List ℕ → Type 0
IsNumberRead w s n rest = s ≡ to_be_bytes w n ++ rest

-- a number of the width isn't all there, and that many more bytes are needed
abbrev pub IsCutPayload : Width → List ℕ → Reading → Type 0
IsCutPayload w s o = (length s < byte_len w) × (o ≡ more (byte_len w - length s))

-- The result is the unsigned number of the first bytes, big-endian, and what is left after them.
-- If more bytes are needed, the result counts how many.
abbrev pub ReadsUnsigned : {I : Type 0} → Width → (I → List ℕ) → I → Result (I × ℕ) Refusal → Type 0
ReadsUnsigned w bytes i result = MatchResult result
    (λ x. IsNumberRead w (bytes i) x.1 (bytes x.0))
    (IsRefusal (IsCutPayload w (bytes i)) ⊥)

-- The result is what a payload of the type at the start means, as viewed by `shown`, and what is left.
-- If more bytes are needed, the result counts how many.
abbrev pub ReadsScalar : {I T : Type 0} → AMQPType → (T → Scalar) → (I → List ℕ) → I → Result (I × T) Refusal → Type 0
ReadsScalar type shown bytes i result = MatchResult result
    (λ x. RawOutcome type (bytes i) (found (scalar (shown x.1)) (bytes x.0)))
    (OnlyLacks (RawOutcome type (bytes i)) ⊥)

-- so it is with a number, which is viewed as its bits
abbrev pub ReadsNumber : {I T : Type 0} → AMQPType → (T → ℕ) → (I → List ℕ) → I → Result (I × T) Refusal → Type 0
ReadsNumber type bits bytes i result = ReadsScalar type (λ n. number type (bits n)) bytes i result
