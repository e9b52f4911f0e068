-- `compute_outcome`: what reading any list of bytes results in, as a function; `Outcome` is the
-- relation. Contracts of amqp_wire use it, and worked examples, which write bytes by `hex`.
use Prim.Native.String.{String}
use Rattle.std.specs.Prelude.{ℕ, Bool, true, false, ◌+◌, ◌-◌, ◌*◌, List, [], ◌∷◌, codes, nat_eq, nat_lt, if◌then◌else◌, suc, zero, ◌&&◌, nat_le, Option, Some, None, option_map, length, take, drop}
use Rattle.std.specs.Int.{Width, byte_len}
use Rattle.std.specs.Str.{is_utf8}
use Rattle.amqp_value_core.specs.declared.types.amqp_type.AMQPType.{AMQPType}
use Rattle.amqp_value_core.specs.declared.types.amqp_type.AMQPType.TheVariants as amqp
use Rattle.amqp_value_core.specs.Values.{Tree, scalar, short, long, octets, array, table, Trees, no_trees, tree, Entries, no_entries}
use Rattle.amqp_value_core.specs.Maps.{insert}
use Rattle.amqp_value_core.specs.Ids.{kind}
use Rattle.amqp_value_core.specs.Layouts.{fixed}
use Rattle.amqp_value_core.specs.Outcomes.{Reading, found, more, unknown, malformed, length_field, counted, lack}

-- the value that the bytes after a length field mean, if they mean one
abbrev pub Meaning : Type 0
Meaning = AMQPType → List ℕ → Option Tree

-- reading a length field, and as many bytes as it counts
abbrev pub framed : Width → (List ℕ → Option Tree) → List ℕ → Reading
framed w mean b =
    let n = counted w b in
    let s = drop (byte_len w) b in
    elim (mean (take n s)) [ Some v ↦ found v (drop n s) | None ↦ malformed ]

-- reading a payload of the type
abbrev pub raw_outcome_by : Meaning → AMQPType → List ℕ → Reading
raw_outcome_by mean type b = elim (lack type b) [
  | suc n ↦ more (suc n)
  | zero ↦ elim (fixed type) [
    | Some f ↦ found (scalar (f.denotes (take f.width b))) (drop f.width b)
    | None ↦ framed (length_field type) (mean type) b
  ]
]

-- reading a type tag and a payload of its type
abbrev pub outcome_by : Meaning → List ℕ → Reading
outcome_by mean [] = more 1
outcome_by mean (c ∷ b) = elim (kind c) [ None ↦ unknown | Some type ↦ raw_outcome_by mean type b ]

-- the values that bytes encode one after another, at most n of them
abbrev pub values_by : (List ℕ → Reading) → ℕ → List ℕ → Option Trees
values_by read n [] = Some no_trees
values_by read zero (c ∷ b) = None
values_by read (suc n) (c ∷ b) = elim (read (c ∷ b)) [ found v rest ↦ option_map (tree v) (values_by read n rest) | _ ↦ None ]

-- whether some bytes are a short string
abbrev pub is_short : List ℕ → Bool
is_short s = nat_le (length s) 255 && is_utf8 s

-- whether the first n bytes are there, and are a key
abbrev pub is_key : ℕ → List ℕ → Bool
is_key n s = nat_le n (length s) && is_short (take n s)

-- the pairs that bytes encode one after another, at most n of them, inserted into es
abbrev pub pairs_onto : (List ℕ → Reading) → ℕ → Entries → List ℕ → Option Entries
pairs_onto read n es [] = Some es
pairs_onto read zero es (k ∷ s) = None
pairs_onto read (suc n) es (k ∷ s) =
    if is_key k s then elim (read (drop k s)) [ found v rest ↦ pairs_onto read n (insert (take k s) v es) rest | _ ↦ None ] else None

-- the meaning if containers nest at most `depth` deep
abbrev pub meaning : ℕ → Meaning
meaning depth amqp.ShortString s = if is_short s then Some (short s) else None
meaning depth amqp.LongString s = Some (long s)
meaning depth amqp.ByteArray s = Some (octets s)
meaning (suc depth) amqp.FieldArray s = option_map array (values_by (outcome_by (meaning depth)) (length s) s)
meaning (suc depth) amqp.FieldTable s = option_map table (pairs_onto (outcome_by (meaning depth)) (length s) no_entries s)
meaning _ _ s = None

-- the outcome of reading a value: no value nests as deep as it has bytes
abbrev pub compute_outcome : List ℕ → Reading
compute_outcome s = outcome_by (meaning (length s)) s

-- the outcome of reading a payload of the type
abbrev pub compute_raw_outcome : AMQPType → List ℕ → Reading
compute_raw_outcome type b = raw_outcome_by (meaning (length b)) type b

-- ---- bytes, as the worked examples write them

-- the value of a digit, `0` to `9` or `a` to `f`
abbrev pub digit : ℕ → ℕ
digit c = if nat_lt c 97 then c - 48 else c - 87

-- what the rest of a notation denotes, outside quotes or within them
abbrev pub noted : List ℕ → Bool → List ℕ
noted [] _ = []
noted (c ∷ s) true = elim (nat_eq c 39) [ true ↦ noted s false | false ↦ c ∷ noted s true ]
noted (c ∷ []) false = []
noted (c ∷ d ∷ s) false = elim (nat_eq c 39) [ true ↦ noted (d ∷ s) true | false ↦ elim (nat_eq c 32) [ true ↦ noted (d ∷ s) false | false ↦ (16 * digit c + digit d) ∷ noted s false ] ]

-- two digits are a byte, an ASCII string between quotes is its bytes, and spaces denote nothing
abbrev pub hex : String → List ℕ
hex s = noted (codes s) false
