-- What `warnings` finds: a repeated key, a key that isn't UTF-8, an empty key, a container that nests too
-- deep, a decimal, and a value that exceeds the frame-max with its frame. In malformed bytes an entry has
-- the bytes that its header counts, or those that are left, but at least one.
use Rattle.std.specs.Prelude.{ℕ, zero, suc, ◌<◌, ◌+◌, ◌-◌, ◌==◌, Bool, true, false, not, ◌&&◌, nat_lt, Option, Some, None, IfSome, option_map, List, [], ◌∷◌, length, take, drop, if◌then◌else◌, ◌≡◌}
use Rattle.std.specs.Bool.{then_some}
use Rattle.std.specs.Option.{option_or}
use Rattle.std.specs.List.{list_any}
use Rattle.std.specs.Str.{is_utf8}
use Rattle.amqp_value_core.specs.declared.types.amqp_type.AMQPType.{AMQPType}
use Rattle.amqp_value_core.specs.declared.types.amqp_type.AMQPType.TheVariants as amqp
use Rattle.amqp_value_core.specs.Ids.{kind, id_of}
use Rattle.amqp_value_core.specs.Maps.{same_bytes}
use Rattle.amq_protocol_types.specs.parsing.Headers.{extent}
use Rattle.amqp_in_place.specs.declared.rabbitmq.warning.Fault.{Fault}
use Rattle.amqp_in_place.specs.declared.rabbitmq.warning.Fault.TheVariants.{Repeated, NotUtf8, Empty, TooDeep, Decimal}
use Rattle.amqp_in_place.specs.declared.rabbitmq.warning.Warned.{Warned}
use Rattle.std.specs.Borrow.{Bor}
use Rattle.std.specs.Ordering.{nat_cmp}
use Rattle.std.specs.BTreeSet.{BTreeSet, contains_by}
use Rattle.std.specs.Cmp.Lexicographic.{slice_cmp}

-- whether a key has the fault, after pairs with these keys in its table
abbrev pub is_key_faulty : Fault → List (List ℕ) → List ℕ → Bool
is_key_faulty Repeated earlier k = list_any (same_bytes k) earlier
is_key_faulty NotUtf8 earlier k = not (is_utf8 k)
is_key_faulty Empty earlier k = length k == 0
is_key_faulty fault earlier k = false

-- whether a value of the type has the fault, where containers may still nest `depth` deep
abbrev pub is_value_faulty : Fault → ℕ → Option AMQPType → Bool
is_value_faulty TooDeep zero (Some amqp.FieldArray) = true
is_value_faulty TooDeep zero (Some amqp.FieldTable) = true
is_value_faulty Decimal depth (Some amqp.DecimalValue) = true
is_value_faulty fault depth type = false

-- the number of bytes before the first pair whose key has the fault, or before the first value that has
-- it, if there is one
abbrev pub WarningPlace : Type 0
WarningPlace = List ℕ → Option ℕ

-- that in values one after another: `value` is that in the value at the start, and n how many bytes
-- are left of a value before them
abbrev pub fault_in_values : WarningPlace → ℕ → WarningPlace
fault_in_values value n [] = None
fault_in_values value zero (c ∷ s) = option_or (value (c ∷ s)) (option_map suc (fault_in_values value (extent (c ∷ s) - 1) s))
fault_in_values value (suc n) (c ∷ s) = option_map suc (fault_in_values value n s)

-- and in pairs, after those with the keys `earlier`: the pair at the start, then one in its value,
-- then one in the pairs after it
abbrev pub fault_in_pairs : Fault → WarningPlace → List (List ℕ) → ℕ → WarningPlace
fault_in_pairs fault value earlier n [] = None
fault_in_pairs fault value earlier zero (k ∷ s) = if is_key_faulty fault earlier (take k s) then Some 0 else option_or (option_map (λ n. 1 + length (take k s) + n) (value (drop k s))) (option_map suc (fault_in_pairs fault value (take k s ∷ earlier) (length (take k s) + extent (drop k s)) s))
fault_in_pairs fault value earlier (suc n) (k ∷ s) = option_map suc (fault_in_pairs fault value earlier n s)

-- and in a value, by what is in its payload
abbrev pub fault_in_value : (Option AMQPType → WarningPlace) → WarningPlace
fault_in_value inside [] = None
fault_in_value inside (c ∷ b) = inside (kind c) (take (extent (c ∷ b) - 1) b)

-- in a payload, with the bytes before it from its type tag on, and containers `depth` deep: the
-- entries of a container are 5 bytes further on
abbrev pub fault_inside : Fault → ℕ → Option AMQPType → WarningPlace
fault_inside fault zero type b = then_some (is_value_faulty fault zero type) 0
fault_inside fault (suc depth) (Some amqp.FieldArray) b = option_map (λ n. 5 + n) (fault_in_values (fault_in_value (fault_inside fault depth)) 0 (drop 4 b))
fault_inside fault (suc depth) (Some amqp.FieldTable) b = option_map (λ n. 5 + n) (fault_in_pairs fault (fault_in_value (fault_inside fault depth)) [] 0 (drop 4 b))
fault_inside fault (suc depth) type b = then_some (is_value_faulty fault (suc depth) type) 0

-- the first with the fault in a value, in values and in pairs, if containers nest `depth` deep
-- in each value
abbrev pub value_fault : Fault → ℕ → WarningPlace
value_fault fault depth = fault_in_value (fault_inside fault depth)

abbrev pub values_fault : Fault → ℕ → WarningPlace
values_fault fault depth = fault_in_values (value_fault fault depth) 0

abbrev pub pairs_fault : Fault → ℕ → WarningPlace
pairs_fault fault depth = fault_in_pairs fault (value_fault fault depth) [] 0

-- ---- what the clauses say

-- the first pair with a key that an earlier pair of its table has, with a key that isn't UTF-8, and with an
-- empty key; the first container that nests more than `depth` deep; and the first decimal
abbrev pub first_repeated_key : ℕ → WarningPlace
first_repeated_key = value_fault Repeated

abbrev pub first_key_not_utf8 : ℕ → WarningPlace
first_key_not_utf8 = value_fault NotUtf8

abbrev pub first_empty_key : ℕ → WarningPlace
first_empty_key = value_fault Empty

abbrev pub first_too_deep : ℕ → WarningPlace
first_too_deep = value_fault TooDeep

abbrev pub first_decimal : ℕ → WarningPlace
first_decimal = value_fault Decimal

-- that in a table without its type tag: as with the type tag, and one byte less before it, but 0 before the
-- table itself
abbrev pub in_untagged : WarningPlace → WarningPlace
in_untagged place s = option_map (λ n. n - 1) (place (id_of amqp.FieldTable ∷ s))

-- whether the value's bytes without the type tag, and the 8 bytes of a frame, are more than the frame-max,
-- if that isn't 0
abbrev pub passes_frame : ℕ → List ℕ → Bool
passes_frame frame_max s = nat_lt 0 frame_max && nat_lt frame_max (extent s - 1 + 8)

-- each place has fewer than n bytes before it
abbrev pub AreInside : ℕ → Warned → Type 0
AreInside n w =
    IfSome w.repeated_key (λ k. k < n)
    × IfSome w.key_not_utf8 (λ k. k < n)
    × IfSome w.empty_key (λ k. k < n)
    × IfSome w.too_deep (λ k. k < n)
    × IfSome w.decimal (λ k. k < n)
    × IfSome w.nested_header (λ k. k < n)

-- ---- what looking for a fault has seen of a table's keys

-- the set has the keys, if it is needed
abbrev pub HasKeys : Fault → BTreeSet (Bor (List ℕ)) → List (List ℕ) → Type 0
HasKeys Repeated t keys = (k : List ℕ) → contains_by (λ (j : Bor (List ℕ)). slice_cmp nat_cmp k j.now) t ≡ list_any (same_bytes k) keys
HasKeys fault t keys = Unit {0}

-- what is reported of a key is right, after whichever keys the set had, and then the set has it too
abbrev pub IsKeyFaultReport : Fault → BTreeSet (Bor (List ℕ)) → BTreeSet (Bor (List ℕ)) → List ℕ → Bool → Type 0
IsKeyFaultReport fault t u k faulty = (keys : List (List ℕ)) → HasKeys fault t keys → (faulty ≡ is_key_faulty fault keys k) × (faulty ≡ false → HasKeys fault u (k ∷ keys))

-- the key of the pair at the start, or its bytes that are left, and the bytes after it
abbrev pub key_of : List ℕ → List ℕ
key_of [] = []
key_of (k ∷ s) = take k s

abbrev pub after_key : List ℕ → List ℕ
after_key [] = []
after_key (k ∷ s) = drop k s
