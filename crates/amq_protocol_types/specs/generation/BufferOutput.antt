-- What the methods of `Output` and `BackToTheBuffer` do: `AppendsBytes` is about `put`,
-- `PromisesCapacity` about `make_room`, `filled` about `fill`, and `TruncatesTo` about `back_to`.
use Rattle.std.specs.Prelude.{ℕ, ◌≡◌, ◌+◌, ◌-◌, ◌^◌, ◌<◌, ◌≤◌, ⊤, Bool, IsTrue, Some, IsSome, IfSome, Result, Ok, Err, IsOk, IfErr, OnOk, OnErr, IsErrOf, List, ◌++◌, length, take, drop}
use Rattle.std.specs.Option.{option_map}
use Rattle.std.specs.Int.{w32, to_be_bytes}
use Rattle.std.specs.declared.io.ErrorKind.{ErrorKind}
use Rattle.amq_protocol_types.specs.declared.generation.error.GenError.{GenError}
use Rattle.amq_protocol_types.specs.declared.generation.error.GenError.TheVariants.{BufferTooSmall, LengthTooLong, IoError, InvalidOffset, OutOfMemory}
use Rattle.amq_protocol_types.specs.generation.Outputs.{OutputState, HasFailed, Writes}

-- whether a call that writes succeeded, or its error, without the value that it returns
abbrev pub outcome_of : {T : Type 0} → Result T GenError → Result (Unit {0}) GenError
outcome_of (Ok _) = Ok tt
outcome_of (Err e) = Err e

-- What a buffer is viewed as.
-- The buffer has as many bytes as its position counts, and after them as many as its capacity is.
pub record IsConsistentOutput (s : OutputState) : Type 0 where
  pub written : IsSome s.written
  pub counted : IfSome s.written (λ put. length put ≡ s.position)
  pub tail : IfSome s.capacity (λ capacity. length s.tail ≡ capacity)

-- One piece of bytes was written completely, or rejected.
pub record AppendsBytes (is_buffer : Bool) (bytes : List ℕ) (before : OutputState) (result : Result (Unit {0}) GenError) (after : OutputState) : Type 0 where
  pub written : Writes is_buffer ⊤ bytes before result after
  -- an error leaves the position as it was
  pub stayed : OnErr result (after.position ≡ before.position)
  -- it isn't rejected within what was promised, and takes no more of that than its length
  pub promised : length bytes ≤ before.promise → IsOk result
  pub promise : OnOk result (before.promise ≤ after.promise + length bytes)

-- A length doesn't fit its field: the call is rejected for that, and nothing was put.
pub record RefusedAsLong (before : OutputState) (result : Result (Unit {0}) GenError) (after : OutputState) : Type 0 where
  pub is : result ≡ Err LengthTooLong
  pub unchanged : after ≡ before

-- The capacity was made sufficient for n more bytes, or the call failed; nothing else changed.
pub record PromisesCapacity (is_buffer : Bool) (n : ℕ) (before : OutputState) (result : Result (Unit {0}) GenError) (after : OutputState) : Type 0 where
  pub written : after.written ≡ before.written
  pub position : after.position ≡ before.position
  pub capacity : after.capacity ≡ before.capacity
  pub tail : after.tail ≡ before.tail
  -- a buffer now promises that many
  pub promise : IsTrue is_buffer → OnOk result (n ≤ after.promise)
  -- with fixed capacity it succeeds exactly when they fit
  pub fits : OnOk result (IfSome before.capacity (λ capacity. n ≤ capacity))
  pub succeeds : IfSome before.capacity (λ capacity. n ≤ capacity → IsOk result)
  -- the errors: when each may come
  pub too_small : IsErrOf result BufferTooSmall → (capacity : ℕ) × (before.capacity ≡ Some capacity) × (capacity < n)
  pub too_long : IsErrOf result LengthTooLong → ⊥
  pub failed : IfErr result (λ e. (kind : ErrorKind) → e ≡ IoError kind → HasFailed before after)
  pub offset : IsErrOf result InvalidOffset → 2 ^ 64 ≤ before.position + n
  -- only a buffer may run out of memory; by `no_other` its capacity is open
  pub memory : IsErrOf result OutOfMemory → IsTrue is_buffer
  pub no_other : IsSome before.capacity → IfErr result (λ e. e ≡ BufferTooSmall)
  -- faults are never taken back
  pub faults : before.faults ≤ after.faults

-- the bytes from `at` on replaced by `bytes`, as many as these are
abbrev pub overwrite : List ℕ → ℕ → List ℕ → List ℕ
overwrite put at bytes = take at put ++ (bytes ++ drop (at + length bytes) put)

-- what an output is viewed as once bytes that were put are replaced
abbrev pub filled : OutputState → ℕ → List ℕ → OutputState
filled s at bytes = record s { written = option_map (λ put. overwrite put at bytes) s.written }

-- The bytes written were cut to the first `at`, and the capacity grew by what was cut.
pub record TruncatesTo (at : ℕ) (before : OutputState) (after : OutputState) : Type 0 where
  pub written : after.written ≡ option_map (take at) before.written
  pub position : after.position ≡ at
  pub capacity : after.capacity ≡ option_map (λ capacity. capacity + (before.position - at)) before.capacity
  pub faults : after.faults ≡ before.faults

-- The number of the bytes written after the four at `at` was filled in there, big-endian.
-- If the number doesn't fit, all from `at` on was taken back.
pub record PatchesLength (at : ℕ) (before : OutputState) (result : Result (Unit {0}) GenError) (after : OutputState) : Type 0 where
  pub fits : OnOk result (before.position - at - 4 < 2 ^ 32)
  pub filled : OnOk result (after ≡ filled before at (to_be_bytes w32 (before.position - at - 4)))
  pub too_long : OnErr result (2 ^ 32 ≤ before.position - at - 4)
  pub refused : IfErr result (λ e. e ≡ LengthTooLong)
  pub back : OnErr result (TruncatesTo at before after)
