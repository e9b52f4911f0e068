-- `problem_of`: the first thing in a value that some `Rules` don't allow. `Reading` allows what the
-- grammar has, and `AnyKeys` also keys of any bytes. `RabbitMq` allows such keys, but not the type
-- tag `U`, nor an infinity or a NaN, for which RabbitMQ closes the connection.
use Rattle.std.specs.Prelude.{ℕ, zero, suc, ◌+◌, ◌-◌, ◌/◌, ◌%◌, ◌^◌, ◌==◌, ◌&&◌, nat_lt, Bool, true, false, Option, Some, None, option_map, List, [], ◌∷◌, length, take, drop, if◌then◌else◌}
use Rattle.std.specs.Option.{option_or}
use Rattle.std.specs.Int.{w32, w64, from_be_bytes}
use Rattle.std.specs.Str.{is_utf8}
use Rattle.amqp_value_core.specs.declared.types.amqp_type.AMQPType.{AMQPType}
use Rattle.amqp_value_core.specs.declared.types.amqp_type.AMQPType.TheVariants as amqp
use Rattle.amqp_value_core.specs.Ids.{kind, id_of}
use Rattle.amq_protocol_types.specs.declared.parsing.within.Limits.{Limits}
use Rattle.amq_protocol_types.specs.parsing.Headers.{extent, raw_extent}
use Rattle.amqp_in_place.specs.declared.problems.Problem.{Problem}
use Rattle.amqp_in_place.specs.declared.problems.ProblemKind.{ProblemKind}
use Rattle.amqp_in_place.specs.declared.problems.ProblemKind.TheVariants.{UnknownTag, NotFinite, Cut, KeyCut, KeyNotUtf8, TooDeep, TooLarge}
use Rattle.amqp_in_place.specs.declared.problems.Rules.{Rules}
use Rattle.amqp_in_place.specs.declared.problems.Rules.TheVariants.{Reading, RabbitMq}

-- the type that the rules know a byte as: that of a type tag, except RabbitMQ's `U`
abbrev pub known : Rules → ℕ → Option AMQPType
known RabbitMq c = if c == 85 then None else kind c
known _ c = kind c

-- whether the rules want floats to be finite, and whether they allow a key
abbrev pub want_finite : Rules → Bool
want_finite RabbitMq = true
want_finite _ = false

abbrev pub allow_key : Rules → List ℕ → Bool
allow_key Reading k = is_utf8 k
allow_key _ k = true

-- whether the `count` bits of n after its `low` lowest are all ones
abbrev pub are_ones : ℕ → ℕ → ℕ → Bool
are_ones low count n = n / 2 ^ low % 2 ^ count == 2 ^ count - 1

-- a problem at the first byte, and a problem n bytes further on
abbrev pub here : ProblemKind → Problem
here kind = record { offset = 0; kind = kind }

abbrev pub further : ℕ → Problem → Problem
further n p = record { offset = n + p.offset; kind = p.kind }

-- the first problem in what is at the start of some bytes, if there is one
abbrev pub Search : Type 0
Search = List ℕ → Option Problem

-- the first problem in entries one after another: `first` is that in the entry at the start, `len`
-- how many bytes this has, and n how many bytes are left of an entry before them
abbrev pub in_entries : Search → (List ℕ → ℕ) → ℕ → Search
in_entries first len n [] = None
in_entries first len zero (c ∷ s) = option_or (first (c ∷ s)) (option_map (further 1) (in_entries first len (len (c ∷ s) - 1) s))
in_entries first len (suc n) (c ∷ s) = option_map (further 1) (in_entries first len n s)

-- the first problem in a value: its type tag is missing or unknown, by its header it has more bytes
-- than are left, or one is in its payload
abbrev pub in_payload : (AMQPType → Search) → AMQPType → Search
in_payload inside type b = if nat_lt (length b) (raw_extent type b) then Some (here Cut) else inside type (take (raw_extent type b) b)

abbrev pub in_value : Rules → (AMQPType → Search) → Search
in_value rules inside [] = Some (here Cut)
in_value rules inside (c ∷ b) = elim (known rules c) [ None ↦ Some (here (UnknownTag c)) | Some type ↦ in_payload inside type b ]

-- the first problem in a pair: its key's, or its value's; and how many bytes a pair has
abbrev pub in_pair : Rules → Search → Search
in_pair rules value [] = Some (here KeyCut)
in_pair rules value (k ∷ s) =
    if nat_lt (length s) k then Some (here KeyCut)
    else if allow_key rules (take k s) then option_map (further (1 + k)) (value (drop k s))
    else Some (here KeyNotUtf8)

abbrev pub pair_len : List ℕ → ℕ
pair_len [] = 0
pair_len (k ∷ s) = 1 + k + extent (drop k s)

-- the first problem in a complete payload of the type, with offsets from its type tag on, if
-- containers may nest `depth` deep: exponent bits that are all ones are those of no finite number
abbrev pub inside : Rules → ℕ → AMQPType → Search
inside rules depth amqp.Float b = if want_finite rules && are_ones 23 8 (from_be_bytes w32 b) then Some (here NotFinite) else None
inside rules depth amqp.Double b = if want_finite rules && are_ones 52 11 (from_be_bytes w64 b) then Some (here NotFinite) else None
inside rules zero amqp.FieldArray b = Some (here TooDeep)
inside rules zero amqp.FieldTable b = Some (here TooDeep)
inside rules (suc depth) amqp.FieldArray b = option_map (further 5) (in_entries (in_value rules (inside rules depth)) extent 0 (drop 4 b))
inside rules (suc depth) amqp.FieldTable b = option_map (further 5) (in_entries (in_pair rules (in_value rules (inside rules depth))) pair_len 0 (drop 4 b))
inside rules depth _ b = None

-- the first problem in a value, in values and in pairs, if containers may nest `depth` deep in each
-- value
abbrev pub value_problem : Rules → ℕ → Search
value_problem rules depth = in_value rules (inside rules depth)

abbrev pub values_problem : Rules → ℕ → Search
values_problem rules depth = in_entries (value_problem rules depth) extent 0

abbrev pub pair_problem : Rules → ℕ → Search
pair_problem rules depth = in_pair rules (value_problem rules depth)

abbrev pub pairs_problem : Rules → ℕ → Search
pairs_problem rules depth = in_entries (pair_problem rules depth) pair_len 0

-- the first problem in the value at the start of s, within the limits
abbrev pub problem_of : Rules → Limits → Search
problem_of rules l s = if nat_lt l.frame (extent s) then Some (here TooLarge) else in_value rules (inside rules l.depth) s

-- that in a table without its type tag, with offsets from its length on: as with the type tag, and
-- one byte less
abbrev pub without_tag : Problem → Problem
without_tag p = record { offset = p.offset - 1; kind = p.kind }

abbrev pub problem_in_table_of : Rules → Limits → Search
problem_in_table_of rules l s = option_map without_tag (problem_of rules l (id_of amqp.FieldTable ∷ s))
