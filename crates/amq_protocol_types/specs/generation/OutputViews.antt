-- `seen_slice`, `seen_vector` and `seen_device`: the `OutputState` that a slice, a `Vec` or a
-- device is viewed as.
use Rattle.std.specs.Prelude.{ℕ, List, Some, length, ◌-◌, [], None, Vec, ◌≡◌, ◌+◌, ◌^◌, ◌≤◌, ◌⊎◌, Option, Result, Err, OnOk, IfErr, min}
use Rattle.std.specs.Vec.{vec_len, vec_capacity}
use Rattle.std.specs.declared.io.ErrorKind.{ErrorKind}
use Rattle.amq_protocol_types.specs.generation.Outputs.{OutputState}
use Rattle.amq_protocol_types.specs.declared.generation.error.GenError.{GenError}
use Rattle.amq_protocol_types.specs.declared.generation.error.GenError.TheVariants.{IoError, InvalidOffset}
use Rattle.amq_protocol_types.specs.declared.generation.device.IoOutput.{IoOutput}

-- the bytes that were written, and those after them
pub record Sliced : Type 0 where
  pub put : List ℕ
  pub tail : List ℕ

-- The output that a slice is viewed as.
-- The capacity left is fixed and sure to be taken, and a slice is no device.
abbrev pub seen_slice : Sliced → OutputState
seen_slice s = record { written = Some s.put; position = length s.put; capacity = Some (length s.tail); promise = length s.tail; faults = 0; tail = s.tail }

-- The output that a vector is viewed as: its bytes are those written, and its capacity is open.
-- What fits the memory that a vector has is sure to be taken, and a vector is no device.
abbrev pub seen_vector : {Z : Type 0} → Vec ℕ Z → OutputState
seen_vector v = record { written = Some v.items; position = length v.items; capacity = None; promise = vec_capacity v - vec_len v; faults = 0; tail = [] }

-- what a device's output is viewed as, if the device reports the bytes that it holds
abbrev pub seen_device : {W : Type 0} → (W → Option (List ℕ)) → IoOutput W → OutputState
seen_device contents s = record { written = contents s.device; position = s.at; capacity = None; promise = 0; faults = s.faults; tail = [] }

-- the device
abbrev pub device_of : {W : Type 0} → IoOutput W → W
device_of s = s.device

-- What writing n bytes results in at a device, with what holds at every output.
pub record AppendsToDevice (n : ℕ) (before : OutputState) (result : Result (Unit {0}) GenError) (after : OutputState) : Type 0 where
  -- it is rejected before a byte goes out if the position would pass the greatest `u64`
  pub offset : 2 ^ 64 ≤ before.position + n → (result ≡ Err InvalidOffset) × (after ≡ before)
  -- else only the device's own failure rejects it
  pub refused : IfErr result (λ e. (e ≡ InvalidOffset) ⊎ ((kind : ErrorKind) × (e ≡ IoError kind)))
  -- the count of faults grows by one with each failure, up to the greatest `u64`, and with nothing
  -- else
  pub counted : IfErr result (λ e. (kind : ErrorKind) → e ≡ IoError kind → after.faults ≡ min (before.faults + 1) (2 ^ 64 - 1))
  pub worked : OnOk result (after.faults ≡ before.faults)
