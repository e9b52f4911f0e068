-- `Flag`, a name with a boolean, and `pack` and `unpack`: the bytes whose bits are the booleans.
use Rattle.std.specs.Prelude.{ℕ, zero, suc, ◌+◌, ◌*◌, ◌/◌, ◌%◌, ◌<◌, ◌≤◌, ◌-◌, ◌==◌, ◌≡◌, Bool, Option, Some, None, String, string_bytes, List, [], ◌∷◌, ◌++◌, length, take, drop, map, slice_index, if◌then◌else◌}
use Rattle.std.specs.declared.alloc.Global.{Global}
use Rattle.std.specs.Int.{bit_at}
use Rattle.std.specs.List.{zip, range_with_len}
use Rattle.amqp_value_core.specs.Maps.{same_bytes}
use Rattle.amqp_value_core.specs.Outcomes.{Reading, more}
use Rattle.amq_protocol_types.specs.declared.flags.AMQPFlags.{AMQPFlags}

-- a flag: its name, and whether it is set
abbrev pub Flag : Type 0
Flag = List ℕ × Bool

-- flags as they are in memory, listed as names with booleans
abbrev pub listed : List (String Global × Bool) → List Flag
listed = map (λ f. (string_bytes f.0, f.1))

-- the flags, in order
abbrev pub flags_of : AMQPFlags → List Flag
flags_of a = listed a.flags.items

-- their names, and their booleans
abbrev pub names_of : List Flag → List (List ℕ)
names_of = map (λ f. f.0)

abbrev pub values_of : List Flag → List Bool
values_of = map (λ f. f.1)

-- the boolean of the first flag of the name
abbrev pub flag_named : List ℕ → List Flag → Option Bool
flag_named name [] = None
flag_named name (f ∷ fs) = if same_bytes f.0 name then Some f.1 else flag_named name fs

-- how many bytes that many flags take: eight to a byte
abbrev pub bytes_for : ℕ → ℕ
bytes_for n = (n + 7) / 8

-- the number whose bits these are, counted from the lowest: the sum of 2 ^ i over the true ones
abbrev pub number_of : List Bool → ℕ
number_of [] = 0
number_of (b ∷ bs) = (if b then 1 else 0) + 2 * number_of bs

-- the next n bytes, each the number of the next eight booleans
abbrev pub packed : ℕ → List Bool → List ℕ
packed zero bs = []
packed (suc n) bs = number_of (take 8 bs) ∷ packed n (drop 8 bs)

-- the bytes of booleans: that of number 8k + i is bit i of byte k, and the bits left over are 0
abbrev pub pack : List Bool → List ℕ
pack bs = packed (bytes_for (length bs)) bs

-- bit number n of bytes: bit n % 8, counted from the lowest, of byte n / 8
abbrev pub bit_of : List ℕ → ℕ → Bool
bit_of s n = bit_at (slice_index s (n / 8)) (n % 8) == 1

-- the bits of bytes, those of the first byte first
abbrev pub bits : List ℕ → List Bool
bits s = map (bit_of s) (range_with_len 0 (8 * length s))

-- the names in order with the bits, as long as both last
abbrev pub unpack : List (List ℕ) → List ℕ → List Flag
unpack names s = zip names (bits s)

-- flags of the names are read from s, and `rest` is left
pub record AreFlagsRead (names : List (List ℕ)) (s : List ℕ) (fs : List Flag) (rest : List ℕ) : Type 0 where
  pub enough : bytes_for (length names) ≤ length s
  pub flags : fs ≡ unpack names (take (bytes_for (length names)) s)
  pub left : rest ≡ drop (bytes_for (length names)) s

-- the bytes of that many flags aren't all there: that many more are needed
abbrev pub AreFlagsCut : ℕ → List ℕ → Reading → Type 0
AreFlagsCut n s o = (length s < bytes_for n) × (o ≡ more (bytes_for n - length s))

-- reading may need memory: there is a flag, and its bytes are all there
abbrev pub AreFlagsHeavy : ℕ → List ℕ → Type 0
AreFlagsHeavy n s = (0 < n) × (bytes_for n ≤ length s)

-- what was written is read back as the same flags, whatever follows
abbrev pub AreFlagsReadBack : List Flag → Type 0
AreFlagsReadBack fs = (rest : List ℕ) → AreFlagsRead (names_of fs) (pack (values_of fs) ++ rest) fs rest
