-- What all calls share: result codes (`code_of`), and what is left at a pointer (`Gives`) and in a
-- buffer (`with_bytes`).
use Rattle.std.specs.Prelude.{ℕ, ℤ, pos, negsuc, Result, Ok, Err, ◌≡◌, ◌+◌, List, length, Option, Some, None, MatchResult, ◌++◌, take, drop, ◌<◌, ◌≤◌}
use Rattle.amq_protocol_types.specs.declared.parsing.errors.Err.TheVariants.{Incomplete, Error, Failure}
use Rattle.amq_protocol_types.specs.declared.parsing.errors.Needed.TheVariants.{Unknown, Size}
use Rattle.amq_protocol_types.specs.declared.parsing.errors.ErrorKind.TheVariants as kind
use Rattle.amq_protocol_types.specs.parsing.Refusals.{Refusal}
use Rattle.amqp_c.specs.declared.fault.Fault.{Fault}
use Rattle.amqp_c.specs.declared.fault.Fault.TheVariants.{More, UnknownTag, Cut, KeyCut, KeyNotUtf8, NotFinite, TooDeep, TooLarge, NotUtf8, NotJson, NotAValue, NoEncoding, Invalid, BadKey, BadTag, OutOfRange, NoRoom, NoMemory}
use Rattle.amqp_c.specs.declared.cursor.Cursor.{Cursor}
use Rattle.amqp_c.specs.declared.entry.Entry.{Entry}

-- ---- the results that C gets

-- the result that is returned for a fault
abbrev pub code_of : Fault → ℤ
code_of (More n) = negsuc 0
code_of UnknownTag = negsuc 1
code_of Cut = negsuc 2
code_of KeyCut = negsuc 3
code_of KeyNotUtf8 = negsuc 4
code_of NotFinite = negsuc 5
code_of TooDeep = negsuc 6
code_of TooLarge = negsuc 7
code_of NotUtf8 = negsuc 8
code_of NotJson = negsuc 9
code_of NotAValue = negsuc 10
code_of NoEncoding = negsuc 11
code_of Invalid = negsuc 12
code_of BadKey = negsuc 13
code_of BadTag = negsuc 14
code_of OutOfRange = negsuc 15
code_of (NoRoom n) = negsuc 16
code_of NoMemory = negsuc 17

-- the result: 0 if the call succeeded
abbrev pub return_code_of : {T : Type 0} → Result T Fault → ℤ
return_code_of (Ok x) = pos 0
return_code_of (Err f) = code_of f

-- the number of bytes that were written, or the capacity that is needed, otherwise 0
abbrev pub length_of : Result ℕ Fault → ℕ
length_of (Ok n) = n
length_of (Err (NoRoom n)) = n
length_of (Err f) = 0

-- what an error of reading a type tag, a length or a number is reported as
abbrev pub header_fault : Refusal → Fault
header_fault (Incomplete (Size n)) = More n
header_fault (Incomplete Unknown) = More 1
header_fault (Failure k) = NoMemory
header_fault (Error kind.MapOpt) = UnknownTag
header_fault (Error _) = Cut

-- the number that denotes a result: 0 if something is returned, 1 if there is nothing
abbrev pub return_code_if_any : {T : Type 0} → Result (Option T) Fault → ℤ
return_code_if_any (Ok (Some x)) = pos 0
return_code_if_any (Ok None) = pos 1
return_code_if_any (Err f) = code_of f

-- ---- what is left at a pointer

-- what is returned, or what was there
abbrev pub ok_or_old : {T : Type 0} → T → Result T Fault → T
ok_or_old old (Ok x) = x
ok_or_old old (Err f) = old

abbrev pub found_or_old : {T : Type 0} → T → Result (Option T) Fault → T
found_or_old old (Ok (Some x)) = x
found_or_old old _ = old

-- the entry and the cursor that a step returns, or what was there
abbrev pub entry_or_old : Entry → Result (Option (Entry × Cursor)) Fault → Entry
entry_or_old old (Ok (Some x)) = x.0
entry_or_old old _ = old

abbrev pub cursor_or_old : Cursor → Result (Option (Entry × Cursor)) Fault → Cursor
cursor_or_old old (Ok (Some x)) = x.1
cursor_or_old old _ = old

-- what `Is` states is given, or the fault is one that `Refuses` allows, and nothing is changed
pub record Gives {T : Type 0} (Is : T → Type 0) (Refuses : Fault → Type 0) (old : T) (code : ℤ) (new : T) : Type 0 where
  pub done : Result T Fault
  pub returned : code ≡ return_code_of done
  pub given : new ≡ ok_or_old old done
  pub right : MatchResult done Is Refuses

-- ---- what is left in a buffer

-- the buffer with these bytes from `at` on, and else as it was
abbrev pub with_bytes : ℕ → List ℕ → List ℕ → List ℕ
with_bytes at bytes buffer = take at buffer ++ (bytes ++ drop (at + length bytes) buffer)

-- these bytes are in the buffer from `at` on
abbrev pub StandsAt : ℕ → List ℕ → List ℕ → Type 0
StandsAt at bytes buffer = take (length bytes) (drop at buffer) ≡ bytes

-- the first n bytes of the buffer are now these, and after them it is as it was
abbrev pub IsPutAtStart : List ℕ → List ℕ → List ℕ → ℕ → Type 0
IsPutAtStart bytes old new n = (n ≡ length bytes) × (n ≤ length old) × (new ≡ bytes ++ drop n old)

-- a buffer of that many bytes is too small, and the fault reports how many are needed
abbrev pub LacksRoom : ℕ → ℕ → Fault → Type 0
LacksRoom needed capacity f = (f ≡ NoRoom needed) × (capacity < needed)
