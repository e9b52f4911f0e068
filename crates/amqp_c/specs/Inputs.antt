-- An input: bytes to read, limits and flags; and why and where reading it fails.
use Rattle.std.specs.Prelude.{ℕ, ◌/◌, ◌%◌, ◌^◌, ◌==◌, nat_lt, Bool, true, false, List, Option, Some, None, if◌then◌else◌, zero, ◌≡◌, option_map, ◌⊎◌}
use Rattle.amqp_value_core.specs.declared.types.amqp_type.AMQPType.TheVariants.{FieldTable}
use Rattle.amq_protocol_types.specs.declared.parsing.within.Limits.{Limits}
use Rattle.amq_protocol_types.specs.parsing.Untagged.{tagged}
use Rattle.amq_protocol_types.specs.declared.parsing.header.Header.{Header}
use Rattle.amq_protocol_types.specs.declared.parsing.header.Header.TheVariants.{Lacks}
use Rattle.amq_protocol_types.specs.parsing.Headers.{wanted}
use Rattle.amqp_in_place.specs.declared.problems.Rules.{Rules}
use Rattle.amqp_in_place.specs.declared.problems.Rules.TheVariants.{Reading, AnyKeys, RabbitMq}
use Rattle.amqp_in_place.specs.declared.problems.Problem as in_place
use Rattle.amqp_in_place.specs.declared.problems.ProblemKind.{ProblemKind}
use Rattle.amqp_in_place.specs.declared.problems.ProblemKind.TheVariants as kind
use Rattle.amqp_in_place.specs.ProblemResults.{FindsValue}
use Rattle.amqp_in_place.specs.Problems.{problem_of, problem_in_table_of}
use Rattle.amqp_c.specs.declared.input.Input.{Input}
use Rattle.amqp_c.specs.declared.fault.Fault.{Fault}
use Rattle.amqp_c.specs.declared.fault.Fault.TheVariants.{More, UnknownTag, Cut, KeyCut, KeyNotUtf8, NotFinite, TooDeep, TooLarge, Invalid}
use Rattle.amqp_c.specs.declared.problem.ReadError.{ReadError}

-- the limits
abbrev pub limits : Input → Limits
limits input = record { frame = input.max_bytes; depth = input.max_depth }

-- whether the bit 2^k of the flags is set
abbrev pub has_flag : ℕ → Input → Bool
has_flag k input = input.flags / 2 ^ k % 2 == 1

abbrev pub is_untagged : Input → Bool
is_untagged = has_flag 0

abbrev pub is_first_key : Input → Bool
is_first_key = has_flag 3

abbrev pub is_for_streams : Input → Bool
is_for_streams = has_flag 4

-- whether there is another flag than these five
abbrev pub has_unknown_flag : Input → Bool
has_unknown_flag input = nat_lt 31 input.flags

-- whether there is none
abbrev pub has_known_flags : Input → Bool
has_known_flags input = if has_unknown_flag input then false else true

-- the rules that the value has to keep, if there is none
abbrev pub rules : Input → Option Rules
rules input = if has_unknown_flag input then None else if has_flag 2 input then Some RabbitMq else if has_flag 1 input then Some AnyKeys else Some Reading

-- the bytes that a value is read from: of a table without its type tag, these after the type tag
abbrev pub encoding : Input → List ℕ
encoding input = if is_untagged input then tagged FieldTable input.bytes.now else input.bytes.now

-- ---- why and where reading fails

-- the first problem by the rules within the limits, by its offset in the bytes
abbrev pub first_problem : Rules → Input → Option in_place.Problem
first_problem rules input = if is_untagged input then problem_in_table_of rules (limits input) input.bytes.now else problem_of rules (limits input) input.bytes.now

-- why reading failed, by the offset and the kind of the first problem: a cut value at 0 isn't cut by a
-- container, but needs n more bytes
abbrev pub fault_of : ℕ → ProblemKind → ℕ → Fault
fault_of zero kind.Cut n = More n
fault_of _ kind.Cut n = Cut
fault_of _ (kind.UnknownTag c) n = UnknownTag
fault_of _ kind.NotFinite n = NotFinite
fault_of _ kind.KeyCut n = KeyCut
fault_of _ kind.KeyNotUtf8 n = KeyNotUtf8
fault_of _ kind.TooDeep n = TooDeep
fault_of _ kind.TooLarge n = TooLarge

-- how many more bytes are needed then
abbrev pub missing_of : ℕ → ProblemKind → ℕ → ℕ
missing_of zero kind.Cut n = n
missing_of _ _ n = 0

-- the byte that isn't a type tag, otherwise 0
abbrev pub unknown_tag : ProblemKind → ℕ
unknown_tag (kind.UnknownTag c) = c
unknown_tag _ = 0

-- what is reported of a first problem, if the field that is being read needs n more bytes
abbrev pub error_of : in_place.Problem → ℕ → ReadError
error_of p n = record { fault = fault_of p.offset p.kind n; problem = record { offset = p.offset; missing = missing_of p.offset p.kind n; tag = unknown_tag p.kind; reason = 0 } }

-- what is reported of the value, if it isn't read by the rules
abbrev pub read_error : Rules → Input → Option ReadError
read_error rules input = option_map (λ p. error_of p (wanted (encoding input))) (first_problem rules input)

-- the value at the start of the input isn't read by the rules, for the reason that is reported; by the rules of reading
-- the grammar has none there
abbrev pub IsReadFault : Rules → Input → Fault → Type 0
IsReadFault rules input f = (e : ReadError) × (read_error rules input ≡ Some e) × (f ≡ e.fault) × (rules ≡ Reading → FindsValue (limits input) (encoding input) → ⊥)

-- a fault of a call that reads by these rules only is right: a flag is unknown, or no value is read
abbrev pub IsInputFault : Input → Fault → Type 0
IsInputFault input f = ((has_known_flags input ≡ false) × (f ≡ Invalid)) ⊎ ((has_known_flags input ≡ true) × IsReadFault Reading input f)

-- ---- on the way

-- how many bytes a header lacks
abbrev pub header_lack : Header → ℕ
header_lack (Lacks n) = n
header_lack _ = 0
