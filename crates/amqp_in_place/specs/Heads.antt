-- `Head`, which leaves the body of a container unread: which bytes have it (`IsHead`), what it
-- means (`HeadMeans`), and whether the body is valid (`HasValidBody`).
use Rattle.std.specs.Prelude.{ℕ, ◌<◌, ◌≤◌, ◌≡◌, ◌-◌, List, length, ◌++◌}
use Rattle.amqp_value_core.specs.declared.types.amqp_type.AMQPType.{AMQPType}
use Rattle.amqp_value_core.specs.declared.types.amqp_type.AMQPType.TheVariants as amqp
use Rattle.amqp_value_core.specs.Values.{Tree, Trees, Entries, array, table}
use Rattle.amqp_value_core.specs.Grammar.{ArrayBody, short_field}
use Rattle.amqp_value_core.specs.Outcomes.{Reading, found, RawOutcome}
use Rattle.amqp_value_core.specs.Nesting.{BodyWithin, OutcomeWithin}
use Rattle.amqp_value_core.specs.Bytes.{slice_bytes}
use Rattle.amq_protocol_types.specs.parsing.PayloadResults.{IsType}
use Rattle.amq_protocol_types.specs.parsing.Bodies.{IsLengthPrefixed, IsTable}
use Rattle.amqp_in_place.specs.declared.head.Head.{Head}
use Rattle.amqp_in_place.specs.declared.head.Head.TheVariants as head
use Rattle.amqp_in_place.specs.declared.refs.ValueRef.{ValueRef}
use Rattle.amqp_in_place.specs.declared.refs.ValueRef.TheVariants as at
use Rattle.amqp_in_place.specs.Refs.{array_body, table_body, plain_tree, Denotes}
use Rattle.amqp_in_place.specs.Bodies.{HasEntries}

-- the value isn't a container
abbrev pub IsPlainRef : ValueRef → Type 0
IsPlainRef (at.FieldArray a) = ⊥
IsPlainRef (at.FieldTable t) = ⊥
IsPlainRef _ = Unit {0}

-- the type isn't one of a container
abbrev pub IsPlainType : AMQPType → Type 0
IsPlainType amqp.FieldArray = ⊥
IsPlainType amqp.FieldTable = ⊥
IsPlainType _ = Unit {0}

-- the head of a payload of the type: a scalar or a string, or the body of a container
abbrev pub RawHeadIs : AMQPType → List ℕ → Head → List ℕ → Type 0
RawHeadIs type s (head.Plain r) rest = IsPlainRef r × IsPlainType type × RawOutcome type s (found (plain_tree r) rest)
RawHeadIs type s (head.FieldArray i) rest = (type ≡ amqp.FieldArray) × IsLengthPrefixed s (slice_bytes i) rest
RawHeadIs type s (head.FieldTable i) rest = (type ≡ amqp.FieldTable) × IsLengthPrefixed s (slice_bytes i) rest

-- the head of a value: that of the payload after its type tag
abbrev pub IsHead : List ℕ → Head → List ℕ → Type 0
IsHead s h rest = (type : AMQPType) × (mid : List ℕ) × IsType s type mid × RawHeadIs type mid h rest

-- whatever the limit on depth is, reading s results in o
abbrev pub AtAnyDepth : List ℕ → Reading → Type 0
AtAnyDepth s o = (d : ℕ) → OutcomeWithin d s o

-- the body of the container that the head is of, if it is one, is values or pairs, and containers nest
-- at most d deep in the value
abbrev pub HasValidBody : ℕ → Head → Type 0
HasValidBody d (head.Plain r) = Unit {0}
HasValidBody d (head.FieldArray i) = (0 < d) × (vs : Trees) × BodyWithin (d - 1) (slice_bytes i) vs
HasValidBody d (head.FieldTable i) = (0 < d) × (es : Entries) × IsTable (d - 1) (slice_bytes i) es

-- v is what the head means
abbrev pub HeadMeans : Head → Tree → Type 0
HeadMeans (head.Plain r) v = Denotes r v
HeadMeans (head.FieldArray i) v = (vs : Trees) × ArrayBody (slice_bytes i) vs × (v ≡ array vs)
HeadMeans (head.FieldTable i) v = (es : Entries) × HasEntries (slice_bytes i) es × (v ≡ table es)

-- the head means something
abbrev pub HeadHasMeaning : Head → Type 0
HeadHasMeaning h = (v : Tree) × HeadMeans h v

-- the value is what is in the head
abbrev pub RefersTo : Head → ValueRef → Type 0
RefersTo (head.Plain r) q = q ≡ r
RefersTo (head.FieldArray i) (at.FieldArray a) = array_body a ≡ slice_bytes i
RefersTo (head.FieldTable i) (at.FieldTable t) = table_body t ≡ slice_bytes i
RefersTo _ _ = ⊥

-- `body` is after its length in one byte, and `rest` after it
pub record IsKeyFrame (s body rest : List ℕ) : Type 0 where
  pub framed : s ≡ short_field body ++ rest
  pub few : length body ≤ 255
