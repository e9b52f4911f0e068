-- Which errors parsers may return (`Refuses` for `parse_value`, `RefusesAs` and `IsRefusal` for any
-- parser), that reading has one outcome, and what more bytes change.
use Rattle.std.specs.Prelude.{ℕ, ◌≡◌, List, ◌++◌}
use Rattle.amqp_value_core.specs.Outcomes.{Reading, more, unknown, malformed, Outcome, Heavy, StillWaits, with_more}
use Rattle.amq_protocol_types.specs.declared.parsing.errors.Err.TheVariants.{Incomplete, Error, Failure}
use Rattle.amq_protocol_types.specs.declared.parsing.errors.Needed.TheVariants.{Unknown, Size}
use Rattle.amq_protocol_types.specs.declared.parsing.errors.ErrorKind.{ErrorKind}
use Rattle.amq_protocol_types.specs.declared.parsing.errors.ErrorKind.TheVariants.{MapOpt, Eof, OutOfMemory}
use Rattle.amq_protocol_types.specs.parsing.Refusals.{Refusal}

-- Reading a value from s may return the error: that many more bytes are needed,
-- the first byte isn't a type tag, no prefix is an encoding, or an allocation failed.
abbrev pub Refuses : List ℕ → Refusal → Type 0
Refuses s (Incomplete (Size n)) = Outcome s (more n)
Refuses s (Error MapOpt) = Outcome s unknown
Refuses s (Error Eof) = Outcome s malformed
Refuses s (Failure kind) = (kind ≡ OutOfMemory) × Heavy s
Refuses s _ = ⊥

-- A parser may return the error. `IsError` says which kinds of `Error` there are.
-- `Is` says what reading the input results in, and `heavy` whether that may allocate.
abbrev pub RefusesAs : (ErrorKind → Type 0) → (Reading → Type 0) → Type 0 → Refusal → Type 0
RefusesAs IsError Is heavy (Incomplete Unknown) = ⊥
RefusesAs IsError Is heavy (Incomplete (Size n)) = Is (more n)
RefusesAs IsError Is heavy (Error kind) = IsError kind
RefusesAs IsError Is heavy (Failure kind) = (kind ≡ OutOfMemory) × heavy

-- so if its errors are those of a value's parser: `MapOpt` for `unknown`, and `Eof` for `malformed`
abbrev pub IsRefusal : (Reading → Type 0) → Type 0 → Refusal → Type 0
IsRefusal Is heavy (Incomplete (Size n)) = Is (more n)
IsRefusal Is heavy (Error MapOpt) = Is unknown
IsRefusal Is heavy (Error Eof) = Is malformed
IsRefusal Is heavy (Failure kind) = (kind ≡ OutOfMemory) × heavy
IsRefusal Is heavy _ = ⊥

-- reading s results in exactly one outcome: the value, the rest and the error are determined
abbrev pub HasOneOutcome : List ℕ → Type 0
HasOneOutcome s = (o : Reading) × Outcome s o × ((p : Reading) → Outcome s p → p ≡ o)

-- More bytes come after the rest of a value, lower the number that is needed, and keep an error.
abbrev pub KeepsOutcome : List ℕ → Type 0
KeepsOutcome s = (o : Reading) (t : List ℕ) → Outcome s o → StillWaits o t → Outcome (s ++ t) (with_more o t)
