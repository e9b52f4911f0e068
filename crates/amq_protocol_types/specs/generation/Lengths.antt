-- What `gen_with_len` does: `AppendsWithLength` or `RefusesWithLength`; and `OnlyAppends`, which is
-- what its closure must do.
use Rattle.std.specs.Prelude.{ℕ, ◌≡◌, ◌+◌, ◌^◌, ◌<◌, ◌≤◌, ◌⊎◌, ⊤, true, List, length, drop, replicate, Result, Ok, Err, OnOk}
use Rattle.std.specs.Int.{w32, to_be_bytes}
use Rattle.std.specs.Io.KnownBytes.{Appends}
use Rattle.amqp_value_core.specs.Grammar.{long_field}
use Rattle.amq_protocol_types.specs.declared.generation.context.WriteContext.{WriteContext}
use Rattle.amq_protocol_types.specs.declared.generation.error.GenError.{GenError}
use Rattle.amq_protocol_types.specs.declared.generation.error.GenError.TheVariants.{LengthTooLong}
use Rattle.amq_protocol_types.specs.generation.Contexts.{start_of, state_of}
use Rattle.amq_protocol_types.specs.generation.Outputs.{OutputState, Writes}
use Rattle.amq_protocol_types.specs.generation.BufferOutput.{filled}

-- A call only appends, whatever it returns: the bytes before it are a prefix of those after it.
pub record OnlyAppends (before : OutputState) (result : Result (Unit {0}) GenError) (after : OutputState) : Type 0 where
  -- what comes after them
  pub more : List ℕ
  pub appended : Appends before.written after.written more
  -- if it returns Ok, what was after the position is cut by as many
  pub tail : OnOk result (after.tail ≡ drop (length more) before.tail)

-- Four bytes of 0 were put to `old`, and `before` is the context then.
pub record IsReserved {W : Type 0} (seen : W → OutputState) (old before : WriteContext W) : Type 0 where
  pub zeros : Writes true ⊤ (replicate 4 0) (state_of seen old) (Ok tt) (state_of seen before)
  pub start : start_of before ≡ start_of old

-- `may` states which calls there are: from which context, with which result, to which.
-- What such a call appended was written after its length in four bytes.
pub record AppendsWithLength {W : Type 0} (seen : W → OutputState) (may : WriteContext W → Result (Unit {0}) GenError → WriteContext W → Type 0) (old new : WriteContext W) : Type 0 where
  -- the context before the call and that after it
  pub before : WriteContext W
  pub after : WriteContext W
  pub reserved : IsReserved seen old before
  pub called : may before (Ok tt) after
  -- what the call appended, and how four bytes count it
  pub more : List ℕ
  pub appended : Appends (state_of seen before).written (state_of seen after).written more
  pub fits : length more < 2 ^ 32
  -- what is put is the length, then that
  pub put : Appends (state_of seen old).written (state_of seen new).written (long_field more)
  pub moved : (state_of seen new).position ≡ (state_of seen old).position + length (long_field more)
  -- only the four bytes differ from what the call left
  pub filled : state_of seen new ≡ filled (state_of seen after) (state_of seen old).position (to_be_bytes w32 (length more))
  pub start : start_of new ≡ start_of after

-- a call may return the error; the start of the context's count is as the call left it
pub record MayRefuse {W : Type 0} (seen : W → OutputState) (may : WriteContext W → Result (Unit {0}) GenError → WriteContext W → Type 0) (old new : WriteContext W) (e : GenError) : Type 0 where
  pub before : WriteContext W
  pub after : WriteContext W
  pub reserved : IsReserved seen old before
  pub called : may before (Err e) after
  pub start : start_of new ≡ start_of after

-- A call may append more than four bytes count.
-- The start of the context's count is as the call left it.
pub record MayPassLength {W : Type 0} (seen : W → OutputState) (may : WriteContext W → Result (Unit {0}) GenError → WriteContext W → Type 0) (old new : WriteContext W) : Type 0 where
  pub before : WriteContext W
  pub after : WriteContext W
  pub reserved : IsReserved seen old before
  pub called : may before (Ok tt) after
  pub more : List ℕ
  pub appended : Appends (state_of seen before).written (state_of seen after).written more
  pub long : 2 ^ 32 ≤ length more
  pub start : start_of new ≡ start_of after

-- Why no length was put.
-- The four bytes for the length were rejected, or the call was, or what it appended is too long.
abbrev pub RefusesWithLength : {W : Type 0} → (W → OutputState) → (WriteContext W → Result (Unit {0}) GenError → WriteContext W → Type 0) → WriteContext W → WriteContext W → GenError → Type 0
RefusesWithLength seen may old new e =
    (Writes true ⊤ (replicate 4 0) (state_of seen old) (Err e) (state_of seen new) × (start_of new ≡ start_of old))
    ⊎ (MayRefuse seen may old new e ⊎ ((e ≡ LengthTooLong) × MayPassLength seen may old new))
