-- `OutputState`, which each output is viewed as, and `Writes`, what a generator does to it.
use Rattle.std.specs.Prelude.{ℕ, ◌≡◌, ◌+◌, ◌-◌, ◌^◌, ◌<◌, ◌≤◌, ◌⊎◌, Bool, IsTrue, Option, Some, IsSome, IfSome, Result, IsOk, IfErr, OnOk, OnErr, List, length, drop}
use Rattle.std.specs.Option.{option_map}
use Rattle.std.specs.declared.io.ErrorKind.{ErrorKind}
use Rattle.std.specs.Io.KnownBytes.{Appends}
use Rattle.amq_protocol_types.specs.declared.generation.error.GenError.{GenError}
use Rattle.amq_protocol_types.specs.declared.generation.error.GenError.TheVariants.{BufferTooSmall, LengthTooLong, IoError, InvalidOffset, OutOfMemory}

-- what an output is viewed as
pub record OutputState : Type 0 where
  -- the bytes written so far, if the output reports them
  pub written : Option (List ℕ)
  -- its position
  pub position : ℕ
  -- how many more bytes fit; `None` if no number is fixed, as of a vector or a device
  pub capacity : Option ℕ
  -- so many further bytes are sure to be taken
  pub promise : ℕ
  -- how often its device failed
  pub faults : ℕ
  -- the bytes after the position, if the capacity is fixed
  pub tail : List ℕ

-- a device failed during a call, or its faults are no longer counted
abbrev pub HasFailed : OutputState → OutputState → Type 0
HasFailed before after = (before.faults < after.faults) ⊎ (after.faults ≡ 2 ^ 64 - 1)

-- some bytes were written, and only they
pub record Wrote (lengths : Type 0) (bytes : List ℕ) (before after : OutputState) : Type 0 where
  -- if the output reports its bytes, they are those before and then these
  pub appended : Appends before.written after.written bytes
  pub moved : after.position ≡ before.position + length bytes
  -- what was after the position is cut by as many
  pub tail : after.tail ≡ drop (length bytes) before.tail
  -- each length fits its field, and the bytes fit the capacity
  pub fits : lengths
  pub capacity : IfSome before.capacity (λ capacity. length bytes ≤ capacity)
  pub capacity_left : after.capacity ≡ option_map (λ capacity. capacity - length bytes) before.capacity

-- position, bytes and capacity are as they were
pub record Stays (before after : OutputState) : Type 0 where
  pub position : after.position ≡ before.position
  pub written : after.written ≡ before.written
  pub capacity : after.capacity ≡ before.capacity

-- when each error may come
pub record MayFail (is_buffer : Bool) (lengths : Type 0) (bytes : List ℕ) (before after : OutputState) (e : GenError) : Type 0 where
  -- the capacity is fixed, and the bytes don't fit it
  pub too_small : e ≡ BufferTooSmall → (capacity : ℕ) × (before.capacity ≡ Some capacity) × (capacity < length bytes)
  -- not each length fits its field
  pub too_long : e ≡ LengthTooLong → lengths → ⊥
  -- its device failed
  pub failed : (kind : ErrorKind) → e ≡ IoError kind → HasFailed before after
  -- the position after the bytes wouldn't be below 2^64
  pub offset : e ≡ InvalidOffset → 2 ^ 64 ≤ before.position + length bytes
  -- only a buffer may run out of memory; by `no_other` its capacity is open
  pub memory : e ≡ OutOfMemory → IsTrue is_buffer
  pub no_other : IsSome before.capacity → (e ≡ BufferTooSmall) ⊎ (e ≡ LengthTooLong)

-- `lengths` means that each length in what a call writes fits its field, `is_buffer` that the output is
-- a buffer: it reports its bytes, and what is rejected adds none.
-- The call wrote `bytes`, or was rejected.
pub record Writes (is_buffer : Bool) (lengths : Type 0) (bytes : List ℕ) (before : OutputState) (result : Result (Unit {0}) GenError) (after : OutputState) : Type 0 where
  pub wrote : OnOk result (Wrote lengths bytes before after)
  -- an error leaves the position of a buffer, the bytes before it and the capacity as they were
  pub stays : IsTrue is_buffer → OnErr result (Stays before after)
  -- with fixed capacity it succeeds whenever each length fits its field, and the bytes fit the capacity
  pub succeeds : lengths → IfSome before.capacity (λ capacity. length bytes ≤ capacity → IsOk result)
  pub fails : IfErr result (MayFail is_buffer lengths bytes before after)
  -- faults are never taken back
  pub faults : before.faults ≤ after.faults
