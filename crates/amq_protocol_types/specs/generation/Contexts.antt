-- What a `WriteContext` is viewed as, and what calls do to it.
use Rattle.std.specs.Prelude.{ℕ, ◌≡◌, Bool, List, Result}
use Rattle.amq_protocol_types.specs.declared.generation.error.GenError.{GenError}
use Rattle.amq_protocol_types.specs.generation.Outputs.{OutputState}
use Rattle.amq_protocol_types.specs.generation.BufferOutput.{AppendsBytes}
use Rattle.amq_protocol_types.specs.declared.generation.context.WriteContext.{WriteContext}

-- the output in it
abbrev pub output_of : {W : Type 0} → WriteContext W → W
output_of x = x.output

-- the position of its output as it was made
abbrev pub start_of : {W : Type 0} → WriteContext W → ℕ
start_of x = x.start

-- what its output is viewed as, by how outputs of the type are viewed
abbrev pub state_of : {W : Type 0} → (W → OutputState) → WriteContext W → OutputState
state_of seen x = seen x.output

-- a call wrote one piece of bytes through the context completely, or was rejected
abbrev pub AppendsThrough : {W : Type 0} → Bool → (W → OutputState) → List ℕ → WriteContext W → Result (Unit {0}) GenError → WriteContext W → Type 0
AppendsThrough is_buffer seen bytes old result new = AppendsBytes is_buffer bytes (state_of seen old) result (state_of seen new)

-- the start of the context's count is unchanged
abbrev pub KeepsStart : {W : Type 0} → WriteContext W → WriteContext W → Type 0
KeepsStart old new = start_of new ≡ start_of old
