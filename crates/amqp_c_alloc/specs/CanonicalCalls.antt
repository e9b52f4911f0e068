-- `WritesCanonical`: what `amqpv_canonical` returns, and what it writes.
use Rattle.std.specs.Prelude.{ℕ, ◌≡◌, ◌+◌, ◌≤◌, ℤ, List, length, false, Result, Err, IfErr, MatchResult, if◌then◌else◌, ◌⊎◌}
use Rattle.amqp_value_core.specs.declared.types.amqp_type.AMQPType.TheVariants.{FieldTable}
use Rattle.amqp_value_core.specs.Values.{Tree}
use Rattle.amqp_value_core.specs.Outcomes.{found}
use Rattle.amqp_value_core.specs.Texts.{text}
use Rattle.amq_protocol_types.specs.declared.parsing.within.Limits.{Limits}
use Rattle.amq_protocol_types.specs.parsing.Limits.{Within}
use Rattle.amq_protocol_types.specs.parsing.Untagged.{tagged}
use Rattle.amqp_in_place.specs.Canonicals.{IsCanonicalLen}
use Rattle.amqp_in_place.specs.ProblemResults.{FindsValue}
use Rattle.amqp_c.specs.declared.fault.Fault.{Fault}
use Rattle.amqp_c.specs.declared.fault.Fault.TheVariants.{Invalid, NoMemory}
use Rattle.amqp_c.specs.declared.input.Input.{Input}
use Rattle.amqp_c.specs.CallResults.{IsPutAtStart, LacksRoom, return_code_of, length_of}
use Rattle.amqp_c.specs.Inputs.{limits, is_untagged, has_known_flags, encoding, IsInputFault}

-- bytes after the type tag that the input lacks
abbrev pub after_tag : Input → List ℕ → List ℕ
after_tag input bytes = if is_untagged input then tagged FieldTable bytes else bytes

-- v is read from the start of s within the limits, with `rest` after it, and its canonical encoding
-- has no more bytes than it was read from
abbrev pub IsValueReadWithin : Limits → List ℕ → Tree → List ℕ → Type 0
IsValueReadWithin l s v rest = Within l s (found v rest) × (length (text v) + length rest ≤ length s)

-- w is the canonical encoding of the value that is read from s
pub record IsCanonicalText (l : Limits) (s w : List ℕ) : Type 0 where
  pub value : Tree
  pub rest : List ℕ
  pub read : IsValueReadWithin l s value rest
  pub same : w ≡ text value

-- the bytes are that, after the type tag that the input lacks
abbrev pub IsCanonicalOf : Input → List ℕ → Type 0
IsCanonicalOf input bytes = IsCanonicalText (limits input) (encoding input) (after_tag input bytes)

-- they are put into the buffer
abbrev pub IsCanonicalWritten : Input → List ℕ → List ℕ → ℕ → Type 0
IsCanonicalWritten input old new n = (bytes : List ℕ) × IsCanonicalOf input bytes × IsPutAtStart bytes old new n

-- no canonical encoding is at the start of s
abbrev pub IsNotCanonical : Limits → List ℕ → Type 0
IsNotCanonical l s = (n : ℕ) → IsCanonicalLen l s n → ⊥

-- a fault is right, for a buffer of that many bytes: the value isn't read; or memory ran out, for a value that isn't
-- encoded canonically; or the canonical encoding has more bytes, as many as the fault reports
abbrev pub IsCanonicalFault : Input → ℕ → Fault → Type 0
IsCanonicalFault input buffer f =
    IsInputFault input f
    ⊎ ((f ≡ NoMemory) × IsNotCanonical (limits input) (encoding input) × FindsValue (limits input) (encoding input))
    ⊎ ((bytes : List ℕ) × IsCanonicalOf input bytes × LacksRoom (length bytes) buffer f)

-- the canonical encoding of the value is put into the buffer; or the fault is right, and the buffer as it was
pub record WritesCanonical (input : Input) (old : List ℕ) (code : ℤ) (new : List ℕ) (n : ℕ) : Type 0 where
  pub done : Result ℕ Fault
  pub returned : code ≡ return_code_of done
  pub counted : n ≡ length_of done
  pub written : MatchResult done (IsCanonicalWritten input old new) (IsCanonicalFault input (length old))
  pub flags : has_known_flags input ≡ false → done ≡ Err Invalid
  pub kept : IfErr done (λ _. new ≡ old)
