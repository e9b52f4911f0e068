-- What the clauses of the public calls say: `IsEncodingWithin`, from a JSON text to an encoding,
-- and `IsJsonOf`, from an encoding to a JSON text; and why a call returns an error.
use Rattle.std.specs.Prelude.{ℕ, ◌≡◌, ◌<◌, ◌≤◌, List, ◌++◌, ◌+◌, length, take, drop, Option, Some, None, option_and_then, false}
use Rattle.json.specs.Json.{Json}
use Rattle.amq_protocol_types.specs.declared.parsing.within.Limits.{Limits}
use Rattle.amq_protocol_types.specs.parsing.Headers.{extent, IsWholeValue}
use Rattle.amq_protocol_types.specs.parsing.Limits.{Within, RefusesWithin}
use Rattle.amqp_in_place.specs.InPlaceResults.{NeedsNoMemory}
use Rattle.amqp_value_core.specs.Values.{Tree, readable}
use Rattle.amqp_value_core.specs.Outcomes.{found}
use Rattle.amqp_value_core.specs.Texts.{text, Fits}
use Rattle.amqp_value_core.specs.Grammar.{Wire}
use Rattle.amqp_in_place.specs.Written.{written as as_written}
use Rattle.amqp_json.specs.Meaning.{meaning, meant_within, json_within}
use Rattle.amqp_json.specs.Nesting.{ReportsNesting}
use Rattle.amqp_json.specs.Written.{json_text, counted, MeansIfShallow}
use Rattle.amqp_json.specs.declared.error.JsonError.{JsonError}
use Rattle.amqp_json.specs.declared.error.JsonError.TheVariants.{Syntax, TooDeep, NotAValue}
use Rattle.amqp_json.specs.declared.error.SyntaxError.TheVariants.{UnexpectedEnd, UnfinishedString}
use Rattle.amqp_json.specs.declared.error.EncodeError.{EncodeError}
use Rattle.amqp_json.specs.declared.error.EncodeError.TheVariants as encode
use Rattle.amqp_json.specs.declared.error.DecodeError.{DecodeError}
use Rattle.amqp_json.specs.declared.error.DecodeError.TheVariants as decode
use Rattle.amqp_json.specs.declared.error.WriteError.{WriteError}
use Rattle.amqp_json.specs.declared.error.WriteError.TheVariants as write

-- ---- from a text

-- the bytes are the canonical encoding of the value that the text of at most so many levels means
abbrev pub IsEncodingWithin : ℕ → List ℕ → List ℕ → Type 0
IsEncodingWithin most t bytes = (v : Tree) × (meant_within most t ≡ Some v) × (bytes ≡ text v)

-- an error that blames the text is right: it isn't JSON, or its JSON means nothing, however many more levels are allowed;
-- or it means nothing within these levels. `json` is what the text is within so many levels
abbrev pub IsRefusedAs : ℕ → JsonError → (ℕ → Option Json) → Type 0
IsRefusedAs most (Syntax at error) json = (levels : ℕ) → most ≤ levels → json levels ≡ None
IsRefusedAs most (TooDeep at) json = option_and_then meaning (json most) ≡ None
IsRefusedAs most (NotAValue at mismatch) json = (levels : ℕ) → most ≤ levels → option_and_then meaning (json levels) ≡ None
IsRefusedAs most e json = Unit {0}

-- no JSON text begins with these bytes, however many levels are allowed
abbrev pub BeginsNoJson : List ℕ → Type 0
BeginsNoJson front = (rest : List ℕ) (levels : ℕ) → json_within levels (front ++ rest) ≡ None

-- the byte at which a text stops being JSON: no JSON text has the bytes up to and including it, or it is the end
abbrev pub StopsAt : JsonError → List ℕ → Type 0
StopsAt (Syntax at error) t = at < length t → BeginsNoJson (take (at + 1) t)
StopsAt e t = Unit {0}

-- and it is `TooDeep` exactly if the text opens one array or object too many before anything else is wrong with it
abbrev pub IsRefusedWithin : ℕ → JsonError → List ℕ → Type 0
IsRefusedWithin most e t = IsRefusedAs most e (λ levels. json_within levels t) × ReportsNesting most e t × StopsAt e t

-- the byte of an error is in a text of that many bytes, or its end. Where the text isn't JSON it is the end exactly if
-- something is missing there
abbrev pub IsWithin : JsonError → ℕ → Type 0
IsWithin (Syntax at UnexpectedEnd) len = at ≡ len
IsWithin (Syntax at UnfinishedString) len = at ≡ len
IsWithin (Syntax at error) len = at < len
IsWithin (TooDeep at) len = at < len
IsWithin (NotAValue at mismatch) len = at ≤ len
IsWithin e len = Unit {0}

-- ---- to a text

-- a text is the JSON text of the encoding at the start of s, with every pair in the order in which it is written, and
-- means the value that reading within the limits finds there, with `rest` after it
abbrev pub IsJsonOf : Limits → List ℕ → List ℕ → List ℕ → Type 0
IsJsonOf l s t rest = (w : List ℕ) × (v : Tree) × (p : Wire w v) × (s ≡ w ++ rest) × Within l s (found v rest) × (t ≡ json_text (as_written w v p)) × MeansIfShallow (as_written w v p) t v

-- that text is the first n bytes of the buffer, and after them it is as it was
abbrev pub IsJsonWritten : Limits → List ℕ → List ℕ → List ℕ → ℕ → List ℕ → Type 0
IsJsonWritten l s old new n rest = (t : List ℕ) × IsJsonOf l s t rest × (n ≡ length t) × (n ≤ length old) × (new ≡ t ++ drop n old)

-- why a value has no JSON text
abbrev pub HasNoText : Tree → EncodeError → Type 0
HasNoText v encode.NoTypeTag = readable v ≡ false
HasNoText v encode.TooLong = Fits v → ⊥
HasNoText v encode.OutOfMemory = Unit {0}

-- why no text is made of the value at the start of s: it isn't read; or memory ran out, if all of its
-- bytes are there, and no more than the limit `frame` allows
abbrev pub IsNotRead : Limits → List ℕ → DecodeError → Type 0
IsNotRead l s (decode.Refused e) = RefusesWithin l s e
IsNotRead l s decode.OutOfMemory = (extent s ≤ l.frame) × IsWholeValue s

-- why no text of the value at the start of s is in a buffer of that many bytes: it isn't read, which
-- needs no memory; or the text has more bytes, as many as the error says
abbrev pub IsNotWritten : Limits → List ℕ → ℕ → WriteError → Type 0
IsNotWritten l s buffer (write.Refused e) = RefusesWithin l s e × NeedsNoMemory e
IsNotWritten l s buffer (write.BufferTooSmall n) = (t : List ℕ) × (rest : List ℕ) × IsJsonOf l s t rest × (n ≡ counted t) × (buffer < n)
