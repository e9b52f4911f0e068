-- `Outcome`: what reading some bytes results in, a value, more bytes that are needed, or an error.
use Rattle.std.specs.Prelude.{ℕ, suc, ◌+◌, ◌-◌, ◌<◌, ◌≡◌, Option, Some, None, MatchOption, List, [], ◌∷◌, ◌++◌, length, take, nat_lt, if◌then◌else◌}
use Rattle.std.specs.Int.{Width, w8, w32, byte_len, from_be_bytes}
use Rattle.amqp_value_core.specs.declared.types.amqp_type.AMQPType.{AMQPType}
use Rattle.amqp_value_core.specs.declared.types.amqp_type.AMQPType.TheVariants as amqp
use Rattle.amqp_value_core.specs.Values.{Tree, short, readable}
use Rattle.amqp_value_core.specs.Ids.{kind}
use Rattle.amqp_value_core.specs.Layouts.{Layout, fixed}
use Rattle.amqp_value_core.specs.Grammar.{Wire, Raw}

pub data Reading : Type 0 where
  -- a value, and the bytes after its encoding
  found : Tree → List ℕ → Reading
  -- that many more bytes are needed: for the first field of the outermost payload or its length, and
  -- then for the whole payload
  more : ℕ → Reading
  -- the first byte isn't a type tag; the parsers return the error `MapOpt`
  unknown : Reading
  -- the outermost length-prefixed field is complete, and no prefix is an encoding; the parsers return
  -- the error `Eof`
  malformed : Reading

-- the width of the length field of a type that has one (`HasLength`; that of any other isn't used)
abbrev pub length_field : AMQPType → Width
length_field amqp.ShortString = w8
length_field _ = w32

-- the number in a length field
abbrev pub counted : Width → List ℕ → ℕ
counted w b = from_be_bytes w (take (byte_len w) b)

-- how many bytes s is short of n: 0 if it has as many, or more
abbrev pub short_of : ℕ → List ℕ → ℕ
short_of n s = n - length s

-- how many more bytes are needed of the length field until it is complete,
-- and how many more are needed then of the field and what it counts
abbrev pub frame_lack : Width → List ℕ → ℕ
frame_lack w b =
    if nat_lt (length b) (byte_len w) then short_of (byte_len w) b
    else short_of (byte_len w + counted w b) b

-- how many more bytes are needed of a layout's first field until it is complete,
-- and how many more are needed then of all its fields
abbrev pub fields_lack : Layout → List ℕ → ℕ
fields_lack f b = if nat_lt (length b) f.first then short_of f.first b else short_of f.width b

-- how many more bytes are needed of a payload of the layout, or of one with a length field
abbrev pub lack_of : Option Layout → Width → List ℕ → ℕ
lack_of (Some f) w b = fields_lack f b
lack_of None w b = frame_lack w b

-- 0 if the bytes of the payload are all there, and otherwise, by the header only,
-- how many more bytes are needed for the field that is being read
abbrev pub lack : AMQPType → List ℕ → ℕ
lack type b = lack_of (fixed type) (length_field type) b

-- Reading a payload of the type from s results in o, where P says which bytes are a payload of which
-- value. One is at the start, more bytes are needed, or the bytes are all there and none is.
abbrev pub RawOutcomeBy : (List ℕ → Tree → Type 0) → AMQPType → List ℕ → Reading → Type 0
RawOutcomeBy P type s (found v rest) = (b : List ℕ) × P b v × (s ≡ b ++ rest)
RawOutcomeBy P type s (more n) = (0 < n) × (lack type s ≡ n)
RawOutcomeBy P type s malformed = (lack type s ≡ 0) × ((b rest : List ℕ) (v : Tree) → P b v → s ≡ b ++ rest → ⊥)
RawOutcomeBy P type s unknown = ⊥

-- `(x : A) × B` reads: there is an x with B. `(x : A) → B` reads: for each x, B.

-- P says which bytes encode which value, and there is one result (law `one_outcome`).
-- What reading a value from some bytes results in.
pub data OutcomeBy (P : List ℕ → Tree → Type 0) : List ℕ → Reading → Type 0 where
  -- there is no byte, and one is needed
  no_byte : OutcomeBy P [] (more 1)
  -- the first byte isn't a type tag
  no_tag : (c : ℕ) → (b : List ℕ) → kind c ≡ None → OutcomeBy P (c ∷ b) unknown
  -- more bytes of the payload are needed
  needs_more : (c : ℕ) → (type : AMQPType) → (b : List ℕ) → (n : ℕ) → kind c ≡ Some type → lack type b ≡ suc n → OutcomeBy P (c ∷ b) (more (suc n))
  -- an encoding is at the start
  at_start : (w : List ℕ) → (rest : List ℕ) → (v : Tree) → P w v → OutcomeBy P (w ++ rest) (found v rest)
  -- none is, and the bytes of the payload are all there
  not_at_start : (c : ℕ) → (type : AMQPType) → (b : List ℕ) → kind c ≡ Some type → lack type b ≡ 0
      → ((w rest : List ℕ) (v : Tree) → P w v → c ∷ b ≡ w ++ rest → ⊥) → OutcomeBy P (c ∷ b) malformed

-- reading a value from s results in o
abbrev pub Outcome : List ℕ → Reading → Type 0
Outcome s o = OutcomeBy Wire s o

-- reading a payload of the type from s results in o
abbrev pub RawOutcome : AMQPType → List ℕ → Reading → Type 0
RawOutcome type s o = RawOutcomeBy (Raw type) type s o

-- the types whose payloads have a length field
abbrev pub HasLength : AMQPType → Type 0
HasLength amqp.ShortString = Unit {0}
HasLength amqp.LongString = Unit {0}
HasLength amqp.ByteArray = Unit {0}
HasLength amqp.FieldArray = Unit {0}
HasLength amqp.FieldTable = Unit {0}
HasLength _ = ⊥

-- reading a payload of the type may allocate: its length counts at least one byte, and all have come
abbrev pub RawHeavy : AMQPType → List ℕ → Type 0
RawHeavy type s = HasLength type × (lack type s ≡ 0) × (0 < counted (length_field type) s)

-- reading a value may allocate
abbrev pub Heavy : List ℕ → Type 0
Heavy [] = ⊥
Heavy (c ∷ b) = MatchOption (kind c) ⊥ (λ type. RawHeavy type b)

-- ---- what reading results in if more bytes follow, and of what was written

-- the outcome if t follows, and is less than what is still needed (`StillWaits`)
abbrev pub with_more : Reading → List ℕ → Reading
with_more (found v rest) t = found v (rest ++ t)
with_more (more n) t = more (n - length t)
with_more unknown t = unknown
with_more malformed t = malformed

-- if more bytes are needed, t has fewer
abbrev pub StillWaits : Reading → List ℕ → Type 0
StillWaits (more n) t = length t < n
StillWaits _ t = Unit {0}

-- What a value is rejected as that isn't readable. A short string is rejected for its type tag.
-- A container with a short string inside is rejected for its body, which isn't all encodings.
abbrev pub unread : Tree → Reading
unread (short s) = unknown
unread _ = malformed

-- what reading results in of what was written for v, with `rest` after it: v again if v is readable
abbrev pub read_back : Tree → List ℕ → Reading
read_back v rest = if readable v then found v rest else unread v
