-- `IsEntry`: what an entry holds of the bytes that it was read from, by spans of these (`part`).
use Rattle.std.specs.Prelude.{ℕ, ◌+◌, ◌-◌, ◌≤◌, List, take, drop, ◌≡◌, Bool, true, false, ◌⊎◌, ◌<◌, Some, [], ◌∷◌, length, Result, Ok, Err}
use Rattle.amqp_value_core.specs.declared.types.amqp_type.AMQPType.{AMQPType}
use Rattle.amqp_value_core.specs.declared.types.amqp_type.AMQPType.TheVariants as amqp
use Rattle.amqp_value_core.specs.Ids.{kind, id_of}
use Rattle.amqp_value_core.specs.Values.{Tree, scalar, short, long, octets, array, table, type_of}
use Rattle.amqp_value_core.specs.Grammar.{Wire, ArrayBody}
use Rattle.amqp_value_core.specs.Outcomes.{Reading, more, unknown, Outcome}
use Rattle.amq_protocol_types.specs.parsing.Headers.{extent}
use Rattle.amq_protocol_types.specs.parsing.ParseResults.{IsRefusal}
use Rattle.amq_protocol_types.specs.parsing.Refusals.{Refusal}
use Rattle.amqp_in_place.specs.Bodies.{HasEntries}
use Rattle.amqp_c.specs.declared.span.Span.{Span}
use Rattle.amqp_c.specs.declared.entry.Entry.{Entry}
use Rattle.amqp_c.specs.declared.fault.Fault.{Fault}
use Rattle.amqp_c.specs.declared.fault.Fault.TheVariants.{More, UnknownTag}
use Rattle.amqp_c.specs.Scalars.{scalar_bits, scalar_scale}
use Rattle.amqp_c.specs.CallResults.{header_fault}

-- ---- spans: bytes by the offset of the first and their number

-- the bytes of the span
abbrev pub part : List ℕ → Span → List ℕ
part s p = take p.length (drop p.offset s)

-- the span is inside n bytes
abbrev pub SpanIsIn : ℕ → Span → Type 0
SpanIsIn n p = p.offset + p.length ≤ n

-- the span of p's bytes, if n more are before them
abbrev pub span_after : ℕ → Span → Span
span_after n p = record { offset = p.offset + n; length = p.length }

-- the bytes of p after those of q
abbrev pub rest_after : Span → Span → Span
rest_after p q = record { offset = q.offset + q.length; length = p.offset + p.length - (q.offset + q.length) }

-- the last n bytes of p
abbrev pub last : Span → ℕ → Span
last p n = record { offset = p.offset + (p.length - n); length = n }

-- ---- type tags of containers, and which types have bytes after a length

-- the type tags of an array and of a table, `A` and `F`
abbrev pub array_tag : ℕ
array_tag = 65

abbrev pub table_tag : ℕ
table_tag = 70

abbrev pub IsContainerTag : ℕ → Type 0
IsContainerTag tag = (tag ≡ array_tag) ⊎ (tag ≡ table_tag)

-- as a value: a string, a byte array or a container
abbrev pub has_content : AMQPType → Bool
has_content amqp.LongString = true
has_content amqp.ByteArray = true
has_content amqp.FieldArray = true
has_content amqp.FieldTable = true
has_content _ = false

-- ---- entries

-- the entry has no number
abbrev pub HasNoNumber : Entry → Type 0
HasNoNumber e = (e.bits ≡ 0) × (e.scale ≡ 0)

-- the entry determines what v is: a value of fixed width by its bits and its scale, any other by
-- the place of its bytes, or of those of its body
abbrev pub DescribesValue : List ℕ → Entry → Tree → Type 0
DescribesValue s e (scalar x) = (e.bits ≡ scalar_bits x) × (e.scale ≡ scalar_scale x) × (e.content.length ≡ 0)
DescribesValue s e (short b) = ⊥
DescribesValue s e (long b) = (part s e.content ≡ b) × HasNoNumber e
DescribesValue s e (octets b) = (part s e.content ≡ b) × HasNoNumber e
DescribesValue s e (array vs) = ArrayBody (part s e.content) vs × HasNoNumber e
DescribesValue s e (table es) = HasEntries (part s e.content) es × HasNoNumber e

-- the entry is that of v, in s: the place of an encoding of v, the type tag that is written for it,
-- and what it is
pub record IsEntry (s : List ℕ) (e : Entry) (v : Tree) : Type 0 where
  pub encoding : Wire (part s e.value) v
  pub tag : e.tag ≡ id_of (type_of v)
  pub says : DescribesValue s e v

-- whatever value is encoded at the place of the entry's value, the entry is that value's
abbrev pub IsTrueTo : List ℕ → Entry → Type 0
IsTrueTo s e = (v : Tree) → Wire (part s e.value) v → IsEntry s e v

-- of a type with bytes after a length, the entry has these as content, after the type tag and four bytes
-- of length, and no number; of another no content
abbrev pub HoldsContent : Bool → Entry → Type 0
HoldsContent true e = (e.content.offset ≡ e.value.offset + 5) × (e.value.length ≡ 5 + e.content.length) × HasNoNumber e
HoldsContent false e = e.content.length ≡ 0

-- the first byte of s is a type tag, and the entry has the one that is written for its type, and its
-- content, whether or not s is a value
abbrev pub IsTagged : List ℕ → Entry → Type 0
IsTagged [] e = ⊥
IsTagged (c ∷ b) e = (type : AMQPType) × (kind c ≡ Some type) × (e.tag ≡ id_of type) × HoldsContent (has_content type) e

-- the entry has no key, its value begins at the start of s and reaches as far as its type tag and
-- its length count, and its type is the one that the type tag denotes
abbrev pub IsEntryAtStart : List ℕ → Entry → Type 0
IsEntryAtStart s e = (e.key.length ≡ 0) × (e.value.offset ≡ 0) × (e.value.length ≡ extent s) × IsTagged s e

-- what the entry names is inside n bytes, and its value has at least one
pub record EntryIsIn (n : ℕ) (e : Entry) : Type 0 where
  pub key : SpanIsIn n e.key
  pub value : SpanIsIn n e.value
  pub content : SpanIsIn n e.content
  pub some : 0 < e.value.length

-- ---- what the value at the start of some bytes gives

-- it is what an error that is right of reading s is reported as
abbrev pub IsRefusalOf : List ℕ → Fault → Type 0
IsRefusalOf s f = (e : Refusal) × (f ≡ header_fault e) × IsRefusal (Outcome s) ⊥ e

-- a fault of the type tag and the length is right: more bytes are needed, or the tag is unknown
abbrev pub HeaderFaults : (Reading → Type 0) → Fault → Type 0
HeaderFaults Is (More n) = Is (more n)
HeaderFaults Is UnknownTag = Is unknown
HeaderFaults Is _ = ⊥

-- the entry of the value at the start is given, wherever there is one
abbrev pub GivesFirst : List ℕ → Tree → List ℕ → Result Entry Fault → Type 0
GivesFirst s v rest (Ok e) = IsEntry s e v × (e.value.offset ≡ 0) × (e.value.length + length rest ≡ length s)
GivesFirst s v rest (Err f) = ⊥
