-- `IsPlain`: the JSON that --plain shows of a value. Arrays, objects, keys, strings, booleans and integers are those of the
-- value; a float or a decimal is a number, or null, and a timestamp a string, of which no clause says more.
use Rattle.std.specs.Prelude.{ℕ, ◌≡◌, List, ◌++◌, decimal as digits, if◌then◌else◌}
use Rattle.std.specs.Int.{w8, w16, w32, w64}
use Rattle.std.specs.Str.{is_utf8}
use Rattle.hex.specs.Hex.{encode_lower}
use Rattle.json.specs.Json.{Json, null, boolean, number, string, array, object, Items, no_items, item, Members, no_members, member}
use Rattle.json.specs.Print.{print}
use Rattle.json.specs.Token.{Token}
use Rattle.json.specs.Tree.{json_tokens}
use Rattle.amq_protocol_types.specs.declared.parsing.within.Limits.{Limits}
use Rattle.amq_protocol_types.specs.parsing.Limits.{Within}
use Rattle.amqp_value_core.specs.declared.types.amqp_type.AMQPType.{AMQPType}
use Rattle.amqp_value_core.specs.declared.types.amqp_type.AMQPType.TheVariants as amqp
use Rattle.amqp_value_core.specs.Grammar.{Wire}
use Rattle.amqp_value_core.specs.Outcomes.{found}
use Rattle.amqp_value_core.specs.Values as values
use Rattle.amqp_value_core.specs.Values.{Tree, scalar, decimal, void, short, long, octets, table, Trees, no_trees, tree, Entries, no_entries, entry}
use Rattle.amqp_in_place.specs.declared.refs.ValueRef.{ValueRef}
use Rattle.amqp_in_place.specs.Written.{IsWrittenAs, written as as_written}
use Rattle.amqp_json.specs.Written.{signed}

abbrev pub IsNumberOrNull : Json → Type 0
IsNumberOrNull null = Unit {0}
IsNumberOrNull (number s) = Unit {0}
IsNumberOrNull j = ⊥

abbrev pub IsString : Json → Type 0
IsString (string s) = Unit {0}
IsString j = ⊥

abbrev pub IsPlainNumber : AMQPType → ℕ → Json → Type 0
IsPlainNumber amqp.LongLongInt n j = j ≡ signed w64 n
IsPlainNumber amqp.ShortShortInt n j = j ≡ signed w8 n
IsPlainNumber amqp.ShortInt n j = j ≡ signed w16 n
IsPlainNumber amqp.LongInt n j = j ≡ signed w32 n
IsPlainNumber amqp.Float n j = IsNumberOrNull j
IsPlainNumber amqp.Double n j = IsNumberOrNull j
IsPlainNumber amqp.Timestamp n j = IsString j
-- (the others are unsigned)
IsPlainNumber type n j = j ≡ number (digits n)

abbrev mutual
  pub IsPlain : Tree → Json → Type 0
  IsPlain (scalar (values.boolean b)) j = j ≡ boolean b
  IsPlain (scalar (values.number type n)) j = IsPlainNumber type n j
  IsPlain (scalar (decimal scale n)) j = IsNumberOrNull j
  IsPlain (scalar void) j = j ≡ null
  -- (no value that is read is a short string)
  IsPlain (short s) j = ⊥
  -- a string that isn't UTF-8 is in hexadecimal, as bytes are
  IsPlain (long s) j = j ≡ string (if is_utf8 s then s else encode_lower s)
  IsPlain (octets s) j = j ≡ string (encode_lower s)
  IsPlain (values.array vs) j = (js : Items) × (j ≡ array js) × ArePlain vs js
  IsPlain (table es) j = (ms : Members) × (j ≡ object ms) × MembersArePlain es ms

  pub ArePlain : Trees → Items → Type 0
  ArePlain no_trees no_items = Unit {0}
  ArePlain (tree v vs) (item j js) = IsPlain v j × ArePlain vs js
  ArePlain _ _ = ⊥

  pub MembersArePlain : Entries → Members → Type 0
  MembersArePlain no_entries no_members = Unit {0}
  MembersArePlain (entry k v es) (member key j ms) = (key ≡ k) × IsPlain v j × MembersArePlain es ms
  MembersArePlain _ _ = ⊥

-- the text is plain JSON of the value at the start of s within the limits, every pair in the order in which it is encoded
abbrev pub IsPlainOf : Limits → List ℕ → List ℕ → Type 0
IsPlainOf l s t = (w : List ℕ) × (rest : List ℕ) × (v : Tree) × (p : Wire w v) × (s ≡ w ++ rest) × Within l s (found v rest) × (j : Json) × IsPlain (as_written w v p) j × (t ≡ print (json_tokens j))

-- ---- for private clauses

-- the tokens of a JSON value are written after those that were there
abbrev pub WritesJson : List Token → List Token → Json → Type 0
WritesJson old new j = new ≡ old ++ json_tokens j

-- so are those of plain JSON of a value
abbrev pub WritesPlain : List Token → List Token → Tree → Type 0
WritesPlain old new t = (j : Json) × IsPlain t j × WritesJson old new j

-- of the value that is referred to, as it is written
abbrev pub WritesPlainOf : ValueRef → List Token → List Token → Type 0
WritesPlainOf r old new = (t : Tree) → IsWrittenAs r t → WritesPlain old new t
