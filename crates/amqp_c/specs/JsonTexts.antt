-- `WritesJson`: what `amqpv_proved_to_json` returns and writes.
use Rattle.std.specs.Prelude.{ℕ, ◌≡◌, ℤ, List, length, false, Result, Err, MatchResult, ◌⊎◌}
use Rattle.amqp_json.specs.Conversions.{IsJsonOf}
use Rattle.amqp_json.specs.Written.{counted}
use Rattle.amqp_c.specs.declared.fault.Fault.{Fault}
use Rattle.amqp_c.specs.declared.fault.Fault.TheVariants.{Invalid}
use Rattle.amqp_c.specs.declared.input.Input.{Input}
use Rattle.amqp_c.specs.CallResults.{IsPutAtStart, LacksRoom, return_code_of, length_of}
use Rattle.amqp_c.specs.Inputs.{limits, has_known_flags, encoding, IsInputFault}

-- the JSON text of the encoding that is read is put into the buffer
abbrev pub IsJsonPut : Input → List ℕ → List ℕ → ℕ → Type 0
IsJsonPut input old new n = (t : List ℕ) × (rest : List ℕ) × IsJsonOf (limits input) (encoding input) t rest × IsPutAtStart t old new n

-- a fault is right, for a buffer of that many bytes: the value isn't read; or the text has more bytes, as many as the
-- fault reports
abbrev pub IsJsonFault : Input → ℕ → Fault → Type 0
IsJsonFault input buffer f = IsInputFault input f ⊎ ((t : List ℕ) × (rest : List ℕ) × IsJsonOf (limits input) (encoding input) t rest × LacksRoom (counted t) buffer f)

-- the JSON text of the value is put into the buffer, or the fault is right
pub record WritesJson (input : Input) (old : List ℕ) (code : ℤ) (new : List ℕ) (n : ℕ) : Type 0 where
  pub done : Result ℕ Fault
  pub returned : code ≡ return_code_of done
  pub counted : n ≡ length_of done
  pub written : MatchResult done (IsJsonPut input old new) (IsJsonFault input (length old))
  pub flags : has_known_flags input ≡ false → done ≡ Err Invalid
