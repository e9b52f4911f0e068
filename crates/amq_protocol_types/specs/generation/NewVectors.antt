-- Why `to_vec` and the calls like it return no vector: `IsNotEncoded` or `FailsOnlyForMemory`.
use Rattle.std.specs.Prelude.{◌≡◌, ◌⊎◌, ℕ, List, Result, IfErr}
use Rattle.amq_protocol_types.specs.declared.generation.error.GenError.{GenError}
use Rattle.amq_protocol_types.specs.declared.generation.error.GenError.TheVariants.{LengthTooLong, OutOfMemory}

-- Why a vector with an encoding isn't returned: memory ran out, or a length doesn't fit its field.
-- `lengths` means that each fits.
abbrev pub IsNotEncoded : Type 0 → GenError → Type 0
IsNotEncoded lengths e = (e ≡ OutOfMemory) ⊎ ((e ≡ LengthTooLong) × (lengths → ⊥))

-- if some bytes are as `Is` states, the only error is that memory ran out
abbrev pub FailsOnlyForMemory : {T : Type 0} → (List ℕ → Type 0) → Result T GenError → Type 0
FailsOnlyForMemory Is result = (w : List ℕ) → Is w → IfErr result (λ e. e ≡ OutOfMemory)
