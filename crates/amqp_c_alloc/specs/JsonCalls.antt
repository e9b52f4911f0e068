-- `WritesEncoding`: what `amqpv_proved_from_json` returns and writes.
use Rattle.std.specs.Prelude.{ℕ, min, ◌+◌, ◌≡◌, ◌<◌, ◌≤◌, ℤ, List, ◌++◌, length, take, Option, Some, None, IfSome, Result, Ok, Err, IfErr}
use Rattle.std.specs.Str.{IsUtf8, IsValidUpTo}
use Rattle.amqp_value_core.specs.Values.{Tree}
use Rattle.amqp_value_core.specs.Outcomes.{Outcome, found}
use Rattle.amqp_value_core.specs.Texts.{text}
use Rattle.amqp_json.specs.declared.error.JsonError.{JsonError}
use Rattle.amqp_json.specs.declared.error.JsonError.TheVariants as json
use Rattle.amqp_json.specs.declared.error.Mismatch.{Mismatch}
use Rattle.amqp_json.specs.declared.error.Mismatch.TheVariants as not_a_value
use Rattle.amqp_json.specs.declared.error.SyntaxError.{SyntaxError}
use Rattle.amqp_json.specs.declared.error.SyntaxError.TheVariants as not_json
use Rattle.amqp_json.specs.Conversions.{IsWithin, BeginsNoJson}
use Rattle.amqp_json.specs.Meaning.{most_levels, json_within, meant_within}
use Rattle.amqp_json.specs.Nesting.{IsTooDeepAt}
use Rattle.amqp_c.specs.declared.fault.Fault.{Fault}
use Rattle.amqp_c.specs.declared.fault.Fault.TheVariants.{TooDeep, NotUtf8, NotJson, NotAValue, NoEncoding, NoRoom, NoMemory}
use Rattle.amqp_c.specs.declared.problem.Problem.{Problem}
use Rattle.amqp_c.specs.CallResults.{IsPutAtStart, return_code_of, length_of}

-- the text is UTF-8, and means the value, with at most so many arrays and objects open at once
abbrev pub IsTextOf : ℕ → List ℕ → Tree → Type 0
IsTextOf most t v = IsUtf8 t × (meant_within most t ≡ Some v)

-- the bytes are read as the value, whatever follows
abbrev pub IsReadAs : List ℕ → Tree → Type 0
IsReadAs bytes v = (rest : List ℕ) → Outcome (bytes ++ rest) (found v rest)

-- the canonical encoding of the value that the text means is put into the buffer, and is read as that value
abbrev pub IsEncodingPut : ℕ → List ℕ → List ℕ → List ℕ → ℕ → Type 0
IsEncodingPut most t old new n = (v : Tree) × IsTextOf most t v × IsReadAs (text v) v × IsPutAtStart (text v) old new n

-- what is wrong with a text of which at most `most` arrays and objects may be open at once: it isn't UTF-8, from the
-- byte `at` on, at which no character begins. Or it is, and opens one too many at `at` before anything else is wrong with
-- it. Or it doesn't, and isn't JSON, or means nothing, however deep it may nest. If it isn't JSON, no JSON text begins with
-- the bytes up to and including the byte `at`, or `at` is the end
abbrev pub IsTextFault : ℕ → List ℕ → Fault → ℕ → Type 0
IsTextFault most t NotUtf8 at = IsValidUpTo t at
IsTextFault most t TooDeep at = IsUtf8 t × (meant_within most t ≡ None) × IsTooDeepAt most t at
IsTextFault most t NotJson at = IsUtf8 t × ((levels : ℕ) → most ≤ levels → json_within levels t ≡ None) × ((byte : ℕ) → IsTooDeepAt most t byte → ⊥) × (at < length t → BeginsNoJson (take (at + 1) t))
IsTextFault most t NotAValue at = IsUtf8 t × ((levels : ℕ) → most ≤ levels → meant_within levels t ≡ None) × ((byte : ℕ) → IsTooDeepAt most t byte → ⊥)
IsTextFault most t _ at = ⊥

-- why there is no encoding of a text that isn't rejected, for a buffer of that many bytes: the encoding has more,
-- as many as the fault reports; memory ran out, or an encoding is too large, only if the text is UTF-8
abbrev pub IsEncodingFault : ℕ → List ℕ → ℕ → Fault → Type 0
IsEncodingFault most t buffer (NoRoom n) = (v : Tree) × IsTextOf most t v × IsReadAs (text v) v × (n ≡ length (text v)) × (buffer < n)
IsEncodingFault most t buffer NoEncoding = IsUtf8 t
IsEncodingFault most t buffer NoMemory = IsUtf8 t
IsEncodingFault most t buffer _ = ⊥

-- the numbers of the reasons why a text isn't JSON, and why JSON means no value
abbrev pub syntax_reason : SyntaxError → ℕ
syntax_reason not_json.UnexpectedEnd = 1
syntax_reason not_json.UnfinishedString = 2
syntax_reason not_json.UnexpectedCharacter = 3
syntax_reason not_json.ControlCharacter = 4
syntax_reason not_json.UnknownEscape = 5
syntax_reason not_json.LoneSurrogate = 6
syntax_reason not_json.MissingComma = 7
syntax_reason not_json.MissingColon = 8
syntax_reason not_json.TrailingComma = 9
syntax_reason not_json.AfterTheValue = 10
syntax_reason not_json.ByteOrderMark = 11

abbrev pub mismatch_reason : Mismatch → ℕ
mismatch_reason not_a_value.UnknownType = 101
mismatch_reason not_a_value.NotAlone = 102
mismatch_reason not_a_value.KeyTooLong = 103
mismatch_reason not_a_value.NotANumber = 104
mismatch_reason not_a_value.NotAString = 105
mismatch_reason not_a_value.OutOfRange = 106
mismatch_reason not_a_value.OddDigits = 107
mismatch_reason not_a_value.NotHexadecimal = 108
mismatch_reason not_a_value.DigitCount = 109
mismatch_reason not_a_value.NotADecimal = 110

-- what is stored of a text that is rejected at a byte, for the reason of a number
abbrev pub rejected_at : ℕ → ℕ → Problem
rejected_at at reason = record { offset = at; missing = 0; tag = 0; reason = reason }

-- the problem of a fault has the number of a reason: why the text isn't JSON, which tells whether it ends too early; why
-- it means no value; or 0
abbrev pub HasReason : List ℕ → Fault → Problem → Type 0
HasReason t NotJson p = (error : SyntaxError) × (p ≡ rejected_at p.offset (syntax_reason error)) × IsWithin (json.Syntax p.offset error) (length t)
HasReason t NotAValue p = (mismatch : Mismatch) × (p ≡ rejected_at p.offset (mismatch_reason mismatch))
HasReason t _ p = p ≡ rejected_at p.offset 0

-- the encoding is put, or the text is rejected for a reason, or there is no encoding of it
abbrev pub IsPutOrRejected : ℕ → List ℕ → List ℕ → List ℕ → Result ℕ Fault → Option Problem → Type 0
IsPutOrRejected most t old new (Ok n) None = IsEncodingPut most t old new n
IsPutOrRejected most t old new (Err f) (Some p) = IsTextFault most t f p.offset × HasReason t f p
IsPutOrRejected most t old new (Err f) None = IsEncodingFault most t (length old) f
IsPutOrRejected most t old new _ _ = ⊥

-- what is stored: the problem of a text that is rejected, otherwise what was there
abbrev pub problem_or_old : Problem → Option Problem → Problem
problem_or_old old (Some p) = p
problem_or_old old None = old

-- the encoding of the value that a text means is put into the buffer, or the fault is right, and the buffer as it was
pub record PutsOrRejects (most : ℕ) (t old : List ℕ) (was : Problem) (code : ℤ) (new : List ℕ) (n : ℕ) (problem : Problem) : Type 0 where
  pub done : Result ℕ Fault
  pub found : Option Problem
  pub returned : code ≡ return_code_of done
  pub counted : n ≡ length_of done
  pub stored : problem ≡ problem_or_old was found
  pub written : IsPutOrRejected most t old new done found
  pub inside : IfSome found (λ p. p.offset ≤ length t)
  pub kept : IfErr done (λ _. new ≡ old)

-- so many brackets may be open as `nesting` says, and at most as many as in any text
abbrev pub WritesEncoding : ℕ → List ℕ → List ℕ → Problem → ℤ → List ℕ → ℕ → Problem → Type 0
WritesEncoding nesting = PutsOrRejects (min nesting most_levels)

-- ---- on the way

-- the fault of a text of which there is no encoding, and its problem
abbrev pub json_fault : JsonError → Fault
json_fault (json.Syntax at error) = NotJson
json_fault (json.TooDeep at) = TooDeep
json_fault (json.NotAValue at mismatch) = NotAValue
json_fault json.OutOfMemory = NoMemory
json_fault json.TooLarge = NoEncoding

abbrev pub json_problem : JsonError → Option Problem
json_problem (json.Syntax at error) = Some (rejected_at at (syntax_reason error))
json_problem (json.TooDeep at) = Some (rejected_at at 0)
json_problem (json.NotAValue at mismatch) = Some (rejected_at at (mismatch_reason mismatch))
json_problem _ = None
