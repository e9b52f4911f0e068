-- The AMQP value that a JSON text means, if it means one.
--
-- A key that begins with exactly one `$` is a type key, as in `{"$LongInt":5}`. An object whose only key is a type key is
-- a value of the type that the key names. It means nothing if there is no type of that name, or if the type doesn't take
-- the JSON under the key. An object with a type key and another key means nothing. Any other object is a table, and `$$`
-- at the start of one of its keys stands for `$`.
--
-- Strings and keys are without JSON's escapes here. A number is its text. (36 is `$`, 45 is `-`, 101 is `e`.)
use Rattle.std.specs.Prelude.{ℕ, ℤ, ◌^◌, ◌&&◌, ◌||◌, ◌==◌, List, drop, length, decimal as unsigned_decimal, slice_index, Bool, not, nat_lt, if◌then◌else◌, Option, Some, None, option_map, option_and_then, [], ◌∷◌}
use Rattle.std.specs.List.{before_first, after_first, find, list_any}
use Rattle.std.specs.Float.{Format, binary32, binary64, float_is_finite}
use Rattle.std.specs.Float.Ieee.{to_bits}
use Rattle.fast_float.specs.Parse.{parse_float}
use Rattle.std.specs.Result.{result_ok}
use Rattle.std.specs.Str.{bytes_eq}
use Rattle.std.specs.Str.Parse.{digits_value, signed_digits_value}
use Rattle.std.specs.Fmt.{signed_decimal}
use Rattle.std.specs.Int.{w8, w16, w32, w64, cast_unsigned, from_be_bytes}
use Rattle.hex.specs.Hex.{decode_of, decode_sized}
use Rattle.json.specs.Token.{Token}
use Rattle.json.specs.Lex.{tokens}
use Rattle.json.specs.Json.{Json, null, boolean, number, string, array, object, Items, no_items, item, Members, no_members, member, value, if_last}
use Rattle.amqp_value_core.specs.declared.types.amqp_type.AMQPType.{AMQPType}
use Rattle.amqp_value_core.specs.declared.types.amqp_type.AMQPType.TheVariants as amqp
use Rattle.amqp_value_core.specs.Json.{is_within}
use Rattle.amqp_value_core.specs.Values as values
use Rattle.amqp_value_core.specs.Values.{Tree, scalar, long, octets, table, Trees, no_trees, tree, Entries, no_entries, entry}
use Rattle.amqp_value_core.specs.Maps.{insert_all}
use Rattle.amqp_value_core.specs.Names.{name_of}

-- the types that a type key can name. The others have JSON of their own, or are never the type of a value that is read. A
-- LongLongInt, and a LongString of UTF-8, are written without a type key, and read with one too
abbrev pub named_types : List AMQPType
named_types =
    amqp.ShortShortInt
    ∷ amqp.ShortShortUInt
    ∷ amqp.ShortInt
    ∷ amqp.ShortUInt
    ∷ amqp.LongInt
    ∷ amqp.LongUInt
    ∷ amqp.LongLongInt
    ∷ amqp.Float
    ∷ amqp.Double
    ∷ amqp.DecimalValue
    ∷ amqp.LongString
    ∷ amqp.Timestamp
    ∷ amqp.ByteArray
    ∷ []

-- the one of these types that has the name
abbrev pub type_named : List ℕ → Option AMQPType
type_named name = find (λ type. bytes_eq name (name_of type)) named_types

-- whether a key begins with exactly one `$`, as `$` alone does too (past the end `slice_index` is 0)
abbrev pub is_type_key : List ℕ → Bool
is_type_key k = (slice_index k 0 == 36) && not (slice_index k 1 == 36)

-- the table's key for a key of the text: without its first `$`, if it begins with one
abbrev pub entry_key : List ℕ → List ℕ
entry_key k = if slice_index k 0 == 36 then drop 1 k else k

-- the table with these pairs, in any order: if a key comes again, the last pair with it counts
abbrev pub table_of : Entries → Tree
table_of ps = table (insert_all no_entries ps)

-- whether a byte is the letter `e`
abbrev pub is_e : ℕ → Bool
is_e c = c == 101

-- the signed integer of 64 bits whose decimal text is s. Any bytes have a `signed_digits_value`, so its text has to be s
-- again. That excludes `1.0`, `1e2`, `+1`, `01` and `-0`
abbrev pub signed_of : List ℕ → Option ℤ
signed_of s =
    let z = signed_digits_value 10 s in
    if is_within (2 ^ 63) z && bytes_eq (signed_decimal z) s then Some z else None

-- the unsigned integer of 64 bits whose decimal text is s
abbrev pub unsigned_of : List ℕ → Option ℕ
unsigned_of s =
    let n = digits_value 10 s in
    if nat_lt n (2 ^ 64) && bytes_eq (unsigned_decimal n) s then Some n else None

-- the integer from -half to half - 1 whose decimal text is s
abbrev pub signed_in : ℕ → List ℕ → Option ℤ
signed_in half s = option_and_then (λ z. if is_within half z then Some z else None) (signed_of s)

-- the integer from 0 to limit - 1 whose decimal text is s
abbrev pub unsigned_in : ℕ → List ℕ → Option ℕ
unsigned_in limit s = option_and_then (λ n. if nat_lt n limit then Some n else None) (unsigned_of s)

-- the bits of the finite float that is nearest to the number
abbrev pub float_of : Format → List ℕ → Option ℕ
float_of f s = option_and_then (λ x. if float_is_finite x then Some (to_bits f x) else None) (parse_float f s)

-- a JSON number as a value of the type. Only the integer types, Timestamp, Float and Double take one, each within its
-- range. A signed one is held as its two's complement, a Float and a Double as the bits of the nearest one
abbrev pub number_as : AMQPType → List ℕ → Option Tree
number_as amqp.ShortShortInt s = option_map (λ z. scalar (values.number amqp.ShortShortInt (cast_unsigned w8 z))) (signed_in (2 ^ 7) s)
number_as amqp.ShortShortUInt s = option_map (λ n. scalar (values.number amqp.ShortShortUInt n)) (unsigned_in (2 ^ 8) s)
number_as amqp.ShortInt s = option_map (λ z. scalar (values.number amqp.ShortInt (cast_unsigned w16 z))) (signed_in (2 ^ 15) s)
number_as amqp.ShortUInt s = option_map (λ n. scalar (values.number amqp.ShortUInt n)) (unsigned_in (2 ^ 16) s)
number_as amqp.LongInt s = option_map (λ z. scalar (values.number amqp.LongInt (cast_unsigned w32 z))) (signed_in (2 ^ 31) s)
number_as amqp.LongUInt s = option_map (λ n. scalar (values.number amqp.LongUInt n)) (unsigned_in (2 ^ 32) s)
number_as amqp.LongLongInt s = option_map (λ z. scalar (values.number amqp.LongLongInt (cast_unsigned w64 z))) (signed_of s)
number_as amqp.Timestamp s = option_map (λ n. scalar (values.number amqp.Timestamp n)) (unsigned_of s)
number_as amqp.Float s = option_map (λ n. scalar (values.number amqp.Float n)) (float_of binary32 s)
number_as amqp.Double s = option_map (λ n. scalar (values.number amqp.Double n)) (float_of binary64 s)
number_as type s = None

-- a decimal: its digits as a number below 2^32, then `e-`, then its scale, which is below 256
abbrev pub decimal_of : List ℕ → Option Tree
decimal_of s =
    if slice_index (after_first is_e s) 0 == 45
    then option_and_then (λ n. option_map (λ scale. scalar (values.decimal scale n)) (unsigned_in (2 ^ 8) (drop 1 (after_first is_e s)))) (unsigned_in (2 ^ 32) (before_first is_e s))
    else None

-- a JSON string as a value of the type: a decimal, the 32 or 64 bits of a float in 8 or 16 hexadecimal digits, or bytes in
-- two hexadecimal digits each. The highest bits come first, and digits may be in upper case. No other type takes a string
abbrev pub string_as : AMQPType → List ℕ → Option Tree
string_as amqp.DecimalValue s = decimal_of s
string_as amqp.Float s = option_map (λ b. scalar (values.number amqp.Float (from_be_bytes w32 b))) (result_ok (decode_sized s 4))
string_as amqp.Double s = option_map (λ b. scalar (values.number amqp.Double (from_be_bytes w64 b))) (result_ok (decode_sized s 8))
string_as amqp.LongString s = option_map long (result_ok (decode_of s))
string_as amqp.ByteArray s = option_map octets (result_ok (decode_of s))
string_as type s = None

-- the type of a JSON number that isn't under a type key: a Double if it has a point (46) or an exponent
abbrev pub is_mark : ℕ → Bool
is_mark c = (c == 46) || (c == 101) || (c == 69)

abbrev pub number_type : List ℕ → AMQPType
number_type s = if list_any is_mark s then amqp.Double else amqp.LongLongInt

-- the value of the type that a JSON number or string means; no other JSON means one
abbrev pub value_as : AMQPType → Json → Option Tree
value_as type (number s) = number_as type s
value_as type (string s) = string_as type s
value_as type j = None

-- the pair of a member with the key k and the value v, before the pairs ps. All of the object means nothing if k is a type
-- key, if its table's key has more than 255 bytes, or if a value means nothing, even if a later pair replaces it
abbrev pub with_entry : List ℕ → Option Tree → Option Entries → Option Entries
with_entry k v ps = if is_type_key k || nat_lt 255 (length (entry_key k)) then None else option_and_then (λ x. option_map (entry (entry_key k) x) ps) v

-- what an object means: if its only key is a type key, a value of that type or nothing; otherwise the table with its pairs
-- ps, if these mean something
abbrev pub object_of : Members → Option Entries → Option Tree
object_of (member k j no_members) ps = if is_type_key k then option_and_then (λ type. value_as type j) (type_named (drop 1 k)) else option_map table_of ps
object_of ms ps = option_map table_of ps

abbrev mutual
  -- the value that a JSON value means
  pub meaning : Json → Option Tree
  meaning null = Some (scalar values.void)
  meaning (boolean b) = Some (scalar (values.boolean b))
  meaning (number s) = number_as (number_type s) s
  meaning (string s) = Some (long s)
  meaning (array js) = option_map values.array (meanings js)
  meaning (object ms) = object_of ms (pairs_of ms)

  -- what the items of an array mean; nothing if one of them means nothing
  pub meanings : Items → Option Trees
  meanings no_items = Some no_trees
  meanings (item j js) = option_and_then (λ v. option_map (tree v) (meanings js)) (meaning j)

  -- the pairs of an object that is a table, in the order of the text
  pub pairs_of : Members → Option Entries
  pairs_of no_members = Some no_entries
  pairs_of (member k j ms) = with_entry k (meaning j) (pairs_of ms)

-- how many arrays and objects may be open at once, those with a type key included
abbrev pub most_levels : ℕ
most_levels = 127

-- the JSON that some tokens are: one value of at most so many levels, and no token after it
abbrev pub json_of : ℕ → List Token → Option Json
json_of most ts = option_and_then (λ p. if_last p.0 p.1) (value most ts)

-- the JSON that a text is, with nothing but white space around it
abbrev pub json_within : ℕ → List ℕ → Option Json
json_within most t = json_of most (tokens t)

-- the value that a text of at most so many levels means
abbrev pub meant_within : ℕ → List ℕ → Option Tree
meant_within most t = option_and_then meaning (json_within most t)

-- the value that a text means
abbrev pub meant : List ℕ → Option Tree
meant t = meant_within most_levels t
