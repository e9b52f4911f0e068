-- `output`: the lines that `run` writes for the lines that it reads. `IsSaid`: what is printed of a
-- parser's error.
use Rattle.std.specs.Prelude.{◌≡◌, ℕ, Option, Some, None, IfSome, List, [], ◌∷◌, ◌++◌, length, map, codes, nat_lt, if◌then◌else◌, Result, Ok, Err}
use Rattle.std.specs.Fmt.{decimal}
use Rattle.std.specs.Io.KnownBytes.{Appends}
use Rattle.bstr.specs.Text.{lines_of, without_terminator}
use Rattle.hex.specs.Hex.{decode_of, encode_lower}
use Rattle.hex.specs.declared.error.FromHexError.{FromHexError}
use Rattle.amqp_value_core.specs.Outcomes.{Reading, found, more, unknown, malformed}
use Rattle.amqp_value_core.specs.Decode.{compute_outcome, outcome_by, meaning}
use Rattle.amqp_value_core.specs.Values.{Tree}
use Rattle.amqp_value_core.specs.Texts.{text}
use Rattle.amq_protocol_types.specs.parsing.Headers.{extent}
use Rattle.amq_protocol_types.specs.declared.parsing.within.Limits.{Limits}
use Rattle.amqp_wire.specs.declared.line.Form.{Form}
use Rattle.amqp_wire.specs.declared.line.Form.TheVariants as form
use Rattle.amq_protocol_types.specs.parsing.Refusals.{Refusal}
use Rattle.amq_protocol_types.specs.declared.parsing.errors.Err.TheVariants.{Incomplete, Error, Failure}
use Rattle.amq_protocol_types.specs.declared.parsing.errors.Needed.TheVariants.{Unknown, Size}
use Rattle.amq_protocol_types.specs.declared.parsing.errors.ErrorKind.{ErrorKind}
use Rattle.amq_protocol_types.specs.declared.parsing.errors.ErrorKind.TheVariants.{MapOpt, MapRes, Eof, OutOfMemory, TooLarge}

-- what is printed of a value after which n bytes are left: its canonical encoding in hexadecimal, n
abbrev pub said_of_value : Tree → ℕ → List ℕ
said_of_value v n = codes "value " ++ (encode_lower (text v) ++ (codes " rest " ++ decimal n))

-- what is printed of a reading
abbrev pub said : Reading → List ℕ
said (found v rest) = said_of_value v (length rest)
said (more n) = codes "more " ++ decimal n
said unknown = codes "refused MapOpt"
said malformed = codes "refused Eof"

-- what reading s within limits results in, and `None` if the value is too large
abbrev pub read_within : Limits → List ℕ → Option Reading
read_within l s = if nat_lt l.frame (extent s) then None else Some (outcome_by (meaning l.depth) s)

-- and what is printed of that
abbrev pub said_within : Option Reading → List ℕ
said_within None = codes "refused TooLarge"
said_within (Some o) = said o

-- what is printed of bytes that are read in a form
abbrev pub said_in : Form → List ℕ → List ℕ
said_in (form.Within l) s = said_within (read_within l s)
said_in _ s = said (compute_outcome s)

-- what is printed of the bytes that hexadecimal denotes, if it denotes any
abbrev pub said_of : (List ℕ → List ℕ) → Result (List ℕ) FromHexError → List ℕ
said_of say (Ok s) = say s
said_of say (Err e) = codes "not hex"

-- the result of a line, without its end
abbrev pub line_by : (List ℕ → List ℕ) → List ℕ → List ℕ
line_by say b = said_of say (decode_of b)

-- the results of some lines, each with a line feed at its end
abbrev pub lines_by : (List ℕ → List ℕ) → List (List ℕ) → List ℕ
lines_by say [] = []
lines_by say (b ∷ bs) = (line_by say b ++ 10 ∷ []) ++ lines_by say bs

-- all that is written for some bytes
abbrev pub output_by : (List ℕ → List ℕ) → List ℕ → List ℕ
output_by say xs = lines_by say (map without_terminator (lines_of xs))

-- if a value may be of any length and depth
abbrev pub output : List ℕ → List ℕ
output xs = output_by (λ s. said (compute_outcome s)) xs

-- if values are read within limits
abbrev pub output_within : Limits → List ℕ → List ℕ
output_within l xs = output_by (λ s. said_within (read_within l s)) xs

-- known bytes grow by a prefix of the output
abbrev pub AppendsTextPrefix : Option (List ℕ) → Option (List ℕ) → List ℕ → Type 0
AppendsTextPrefix old new text = (prefix : List ℕ) × (rest : List ℕ) × (text ≡ prefix ++ rest) × Appends old new prefix

-- if what is left to be read is known, what was written grows by its result
abbrev pub AppendsResult : (List ℕ → List ℕ) → Option (List ℕ) → Option (List ℕ) → Option (List ℕ) → Type 0
AppendsResult printed input old new = IfSome input (λ xs. Appends old new (printed xs))

-- or by a prefix of it
abbrev pub AppendsResultPrefix : (List ℕ → List ℕ) → Option (List ℕ) → Option (List ℕ) → Option (List ℕ) → Type 0
AppendsResultPrefix printed input old new = IfSome input (λ xs. AppendsTextPrefix old new (printed xs))

-- the name of a kind
abbrev pub kind_name : ErrorKind → List ℕ
kind_name MapOpt = codes "MapOpt"
kind_name MapRes = codes "MapRes"
kind_name Eof = codes "Eof"
kind_name OutOfMemory = codes "OutOfMemory"
kind_name TooLarge = codes "TooLarge"

-- a string describes an error; no string means that memory ran out
abbrev pub IsSaid : Refusal → List ℕ → Type 0
IsSaid (Incomplete Unknown) t = ⊥
IsSaid (Incomplete (Size n)) t = t ≡ codes "more " ++ decimal n
IsSaid (Error kind) t = t ≡ codes "refused " ++ kind_name kind
IsSaid (Failure kind) t = ⊥

-- a parser returns how many more bytes are needed
abbrev pub IsKnownRefusal : Refusal → Type 0
IsKnownRefusal (Incomplete Unknown) = ⊥
IsKnownRefusal _ = Unit {0}
