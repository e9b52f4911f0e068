-- `Item`: what a call is given to put as the value of an entry, and the encoding that it puts
-- (`IsPutEncoding`).
use Rattle.std.specs.Prelude.{ℕ, ◌≡◌, None, List, [], ◌∷◌, length, ◌⊎◌, ◌<◌, ◌^◌, ◌++◌, take, if◌then◌else◌}
use Rattle.amqp_value_core.specs.declared.types.amqp_type.AMQPType.{AMQPType}
use Rattle.amqp_value_core.specs.Ids.{id_of}
use Rattle.amqp_value_core.specs.Values.{Scalar, Tree, long, octets, array, table, scalar_type, scalar}
use Rattle.amqp_value_core.specs.Grammar.{ArrayBody, Wire}
use Rattle.amqp_value_core.specs.InMemory.{IsScalar}
use Rattle.amqp_value_core.specs.declared.types.amqp_type.AMQPType.TheVariants.{FieldTable}
use Rattle.amqp_value_core.specs.Outcomes.{found}
use Rattle.amqp_value_core.specs.Texts.{text}
use Rattle.amq_protocol_types.specs.parsing.Headers.{extent}
use Rattle.amq_protocol_types.specs.parsing.Limits.{Within}
use Rattle.amqp_in_place.specs.declared.problems.Rules.{Rules}
use Rattle.amqp_in_place.specs.Bodies.{HasEntries}
use Rattle.amqp_in_place.specs.Problems.{value_problem, values_problem, pairs_problem}
use Rattle.amqp_in_place.specs.declared.problems.Rules.TheVariants.{Reading, AnyKeys}
use Rattle.amqp_c.specs.declared.input.Input.{Input}
use Rattle.amqp_c.specs.Entries.{array_tag, table_tag}
use Rattle.amqp_c.specs.Scalars.{scalar_bits, scalar_scale}
use Rattle.amqp_c.specs.Inputs.{limits, is_untagged, encoding, read_error}

-- ---- values, and encodings by rules

-- the type tag, the bits and the scale determine x, as those of an entry do
pub record IsScalarOf (tag bits scale : ℕ) (x : Scalar) : Type 0 where
  pub in_range : IsScalar x
  pub same_tag : tag ≡ id_of (scalar_type x)
  pub same_bits : bits ≡ scalar_bits x
  pub same_scale : scale ≡ scalar_scale x

-- the type tag is the one that is written for some value of fixed width
abbrev pub IsScalarTag : ℕ → Type 0
IsScalarTag tag = (x : Scalar) × IsScalar x × (tag ≡ id_of (scalar_type x))

-- the bits and the scale determine x, which is of this type
pub record IsScalarOfType (type : AMQPType) (bits scale : ℕ) (x : Scalar) : Type 0 where
  pub in_range : IsScalar x
  pub same_type : scalar_type x ≡ type
  pub same_bits : bits ≡ scalar_bits x
  pub same_scale : scale ≡ scalar_scale x

-- the type tags of a long string and of a byte array, `S` and `x`
abbrev pub IsStringTag : ℕ → Type 0
IsStringTag tag = (tag ≡ 83) ⊎ (tag ≡ 120)

-- v is the long string or the byte array of these bytes, by its type tag
abbrev pub IsStringValue : ℕ → List ℕ → Tree → Type 0
IsStringValue tag b v = ((tag ≡ 83) × (v ≡ long b)) ⊎ ((tag ≡ 120) × (v ≡ octets b))

-- v is the array or the table whose body these bytes are
abbrev pub IsOfBody : ℕ → List ℕ → Tree → Type 0
IsOfBody tag b (array vs) = (tag ≡ array_tag) × ArrayBody b vs
IsOfBody tag b (table es) = (tag ≡ table_tag) × HasEntries b es
IsOfBody tag b _ = ⊥

-- what is before the body of a container, its length not filled in yet
abbrev pub tag_and_zeros : ℕ → List ℕ
tag_and_zeros tag = tag ∷ 0 ∷ 0 ∷ 0 ∷ 0 ∷ []

-- ---- by rules

-- w is an encoding by the rules, and all of it, if containers may nest `depth` deep
pub record IsEncodingBy (rules : Rules) (depth : ℕ) (w : List ℕ) : Type 0 where
  pub right : value_problem rules depth w ≡ None
  pub whole : extent w ≡ length w

-- the bytes are values one after another by the rules, and pairs, if containers may nest `depth` deep in each
abbrev pub AreValuesBy : Rules → ℕ → List ℕ → Type 0
AreValuesBy rules depth b = values_problem rules depth b ≡ None

abbrev pub ArePairsBy : Rules → ℕ → List ℕ → Type 0
ArePairsBy rules depth b = pairs_problem rules depth b ≡ None

-- they are the body of an array or a table by the rules, by its type tag
abbrev pub IsBodyBy : Rules → ℕ → ℕ → List ℕ → Type 0
IsBodyBy rules depth tag b = ((tag ≡ array_tag) × AreValuesBy rules depth b) ⊎ ((tag ≡ table_tag) × ArePairsBy rules depth b)

-- ---- what a call puts

-- a value of fixed width, by its type tag, its bits and its scale; a long string or a byte array, by its type tag;
-- or the value at the start of an input, which is read by the rules
pub data Item : Type 0 where
  fixed_width : (tag bits scale : ℕ) → Item
  byte_string : (tag : ℕ) (bytes : List ℕ) → Item
  encoded : (rules : Rules) (input : Input) → Item

-- w is what is read of the input by the rules, its type tag included: by the rules of reading an encoding of a value
pub record IsReadEncoding (rules : Rules) (input : Input) (w : List ℕ) : Type 0 where
  pub read : read_error rules input ≡ None
  pub bytes : w ≡ take (extent (encoding input)) (encoding input)
  pub value : rules ≡ Reading → (v : Tree) × (rest : List ℕ) × Within (limits input) (encoding input) (found v rest) × (encoding input ≡ w ++ rest) × Wire w v

-- w is the encoding that is put of the item: a canonical one of a value of fixed width or of a string, or the one that
-- is read
abbrev pub IsPutEncoding : Item → List ℕ → Type 0
IsPutEncoding (fixed_width tag bits scale) w = (x : Scalar) × IsScalarOf tag bits scale x × (w ≡ text (scalar x)) × Wire w (scalar x)
IsPutEncoding (byte_string tag b) w = (v : Tree) × IsStringValue tag b v × (length b < 2 ^ 32) × (w ≡ text v) × Wire w v
IsPutEncoding (encoded rules input) w = IsReadEncoding rules input w

-- it is an encoding by these rules: those by which it is read, or for what has no keys those of any keys
abbrev pub IsEncodedBy : Item → Rules → Type 0
IsEncodedBy (encoded rules input) other = (other ≡ rules) ⊎ ((rules ≡ Reading) × (other ≡ AnyKeys))
IsEncodedBy _ other = other ≡ AnyKeys

-- how deep containers nest in it at most
abbrev pub item_depth : Item → ℕ
item_depth (encoded rules input) = input.max_depth
item_depth _ = 0

-- the type tag that the input lacks
abbrev pub missing_tag : Input → List ℕ
missing_tag input = if is_untagged input then id_of FieldTable ∷ [] else []
