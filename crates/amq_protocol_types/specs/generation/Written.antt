-- What generators of values promise beyond `Writes`: a value that was read fits in as many bytes,
-- and what is written is canonical and read back.
use Rattle.std.specs.Prelude.{ℕ, ◌≤◌, ◌≡◌, ◌↔◌, IsTrue, List, ◌++◌, length, Result, IsOk, IsErrOf}
use Rattle.std.specs.Option.{IfSome}
use Rattle.amqp_value_core.specs.Values.{Tree, readable}
use Rattle.amqp_value_core.specs.Bytes.{IsBytes}
use Rattle.amqp_value_core.specs.Texts.{text, payload}
use Rattle.amqp_value_core.specs.InMemory.{IsValue}
use Rattle.amqp_value_core.specs.Outcomes.{Outcome, RawOutcome, read_back}
use Rattle.amqp_value_core.specs.Headline.{IsShortest, TellsApart, IsCanonical}
use Rattle.amqp_value_core.specs.declared.types.amqp_type.AMQPType.{AMQPType}
use Rattle.amqp_value_core.specs.Grammar.{Wire, Raw}
use Rattle.amqp_value_core.specs.Canonical.{CanonRaw}
use Rattle.amq_protocol_types.specs.declared.generation.error.GenError.{GenError}
use Rattle.amq_protocol_types.specs.declared.generation.error.GenError.TheVariants.{LengthTooLong}
use Rattle.amq_protocol_types.specs.generation.Outputs.{OutputState}

-- This holds if some bytes are as `Is` states.
-- No length in what is written is rejected, and a capacity of as many bytes is enough.
pub record WritesWhatIs (Is : List ℕ → Type 0) (before : OutputState) (result : Result (Unit {0}) GenError) : Type 0 where
  pub never_too_long : (w : List ℕ) → Is w → IsErrOf result LengthTooLong → ⊥
  pub succeeds : (w : List ℕ) → Is w → IfSome before.capacity (λ capacity. length w ≤ capacity → IsOk result)

-- so of a value's encodings: if it has any, a capacity of as many bytes as any of them is enough
abbrev pub WritesWhatWasRead : Tree → OutputState → Result (Unit {0}) GenError → Type 0
WritesWhatWasRead v before result = WritesWhatIs (λ w. Wire w v) before result

-- and of its payloads of a type
abbrev pub WritesPayloadRead : AMQPType → Tree → OutputState → Result (Unit {0}) GenError → Type 0
WritesPayloadRead type v before result = WritesWhatIs (λ b. Raw type b v) before result

-- what holds of a value whose encoding was written
pub record IsReadBackAndCanonical (v : Tree) : Type 0 where
  -- it is a value in memory
  pub value : IsValue v
  -- what was written is read as it, whatever follows, or rejected if the value isn't readable
  pub read_back : (rest : List ℕ) → Outcome (text v ++ rest) (read_back v rest)
  pub canonical : IsCanonical v

-- the payload that was written of v, of that type, is read as v, whatever follows
-- If v isn't readable, its payload is rejected.
abbrev pub IsPayloadReadBack : AMQPType → Tree → Type 0
IsPayloadReadBack type v = (rest : List ℕ) → RawOutcome type (payload v ++ rest) (read_back v rest)

-- b is a canonical payload of v, of that type, by its bytes (`CanonRaw`) exactly when it is what was
-- written, and v is readable
abbrev pub IsPayloadCanonical : AMQPType → Tree → Type 0
IsPayloadCanonical type v = (b : List ℕ) → IsBytes b → CanonRaw type b v ↔ (IsTrue (readable v) × (b ≡ payload v))

-- the canonical encoding of v is a shortest one, and no other value's
pub record IsShortestAndUnique (v : Tree) : Type 0 where
  pub shortest : IsShortest v
  pub injective : TellsApart v
