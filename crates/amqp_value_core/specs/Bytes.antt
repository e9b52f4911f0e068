-- Lists of bytes: short strings, prefixes, and the bytes that an input has.
use Rattle.std.specs.Prelude.{ℕ, ◌<◌, List, ◌≤◌, length, ◌≡◌, ◌++◌}
use Rattle.std.specs.List.{AllByRecursion}
use Rattle.std.specs.Str.{IsUtf8}
use Rattle.amqp_value_core.specs.declared.input.SliceInput.{SliceInput}
use Rattle.amqp_value_core.specs.declared.input.split.SplitInput.{SplitInput}

-- each number is a byte
abbrev pub IsBytes : List ℕ → Type 0
IsBytes s = AllByRecursion (λ x. x < 256) s

-- by AMQP 0-9-1, section 4.2.5.3,
-- the bytes of a short string, and of a key: at most 255, and UTF-8 by RFC 3629
pub record IsShort (s : List ℕ) : Type 0 where
  pub few : length s ≤ 255
  pub utf8 : IsUtf8 s

-- a is a prefix of s
abbrev pub IsPrefix : List ℕ → List ℕ → Type 0
IsPrefix a s = (rest : List ℕ) × (s ≡ a ++ rest)

-- the bytes of an input of one slice
abbrev pub slice_bytes : SliceInput → List ℕ
slice_bytes s = s.slice.now

-- the bytes of the first slice of an input of two
abbrev pub split_first : SplitInput → List ℕ
split_first s = s.first.now

-- and of the second
abbrev pub split_second : SplitInput → List ℕ
split_second s = s.second.now
