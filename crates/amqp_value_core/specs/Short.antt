-- When `ShortStringError` (`IsTooLong`) and `TryCopyError` (`IsCopyRefused`) are returned, and what
-- the first prints.
use Rattle.std.specs.Prelude.{ℕ, ◌<◌, ◌≤◌, ◌≡◌, Option, List, length, codes, ◌++◌, find, nat_lt, IsSomeAnd}
use Rattle.std.specs.Fmt.{decimal}
use Rattle.amqp_value_core.specs.declared.types.short_string.ShortStringError.{ShortStringError}
use Rattle.amqp_value_core.specs.declared.types.short_string.TryCopyError.{TryCopyError}
use Rattle.amqp_value_core.specs.declared.types.short_string.TryCopyError.TheVariants.{TooLong, OutOfMemory}

-- the length of the string that was rejected
abbrev pub refused_length : ShortStringError → ℕ
refused_length e = e.length

-- a string is rejected for its length, which the error reports
abbrev pub IsTooLong : List ℕ → ShortStringError → Type 0
IsTooLong s e = (255 < length s) × (refused_length e ≡ length s)

-- A copy is rejected for the string's length, or for a failed allocation.
-- No allocation fails if the string is empty or has more than 255 bytes.
abbrev pub IsCopyRefused : List ℕ → TryCopyError → Type 0
IsCopyRefused s (TooLong e) = IsTooLong s e
IsCopyRefused s OutOfMemory = (0 < length s) × (length s ≤ 255)

-- what the error prints
abbrev pub too_long_text : ShortStringError → List ℕ
too_long_text e = codes "ShortString exceeds maximum length of 255 bytes (got " ++ (decimal (refused_length e) ++ codes ")")

-- the first of some strings that has more than 255 bytes
abbrev pub first_too_long : List (List ℕ) → Option (List ℕ)
first_too_long ss = find (λ s. nat_lt 255 (length s)) ss

-- Copies of some strings are rejected for the first length that is too long, which the error reports.
-- They are also rejected for a failed allocation, if there is a string.
abbrev pub AreCopiesRefused : List (List ℕ) → TryCopyError → Type 0
AreCopiesRefused ss (TooLong e) = IsSomeAnd (first_too_long ss) (λ s. refused_length e ≡ length s)
AreCopiesRefused ss OutOfMemory = 0 < length ss
