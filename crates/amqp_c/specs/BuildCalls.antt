-- `PutsEntry`, `OpensContainer` and `ClosesContainer`: what each call that builds a container
-- returns, when each fault is right, and what is left in the buffer.
use Rattle.std.specs.Prelude.{ℕ, ◌≡◌, ◌≤◌, ◌^◌, List, length, ◌⊎◌, ℤ, Result, Ok, Err, IfErr, MatchResult}
use Rattle.amqp_value_core.specs.Values.{Scalar}
use Rattle.amqp_c.specs.declared.container.Container.{Container}
use Rattle.amqp_c.specs.declared.fault.Fault.{Fault}
use Rattle.amqp_c.specs.declared.fault.Fault.TheVariants.{TooLarge, Invalid, BadKey, BadTag, OutOfRange, NoRoom}
use Rattle.amqp_c.specs.CallResults.{LacksRoom, return_code_of, ok_or_old}
use Rattle.amqp_c.specs.Entries.{IsContainerTag}
use Rattle.amqp_c.specs.Inputs.{IsReadFault}
use Rattle.amqp_c.specs.Containers.{IsContainerIn, IsKeyOf, IsPlace, end_with}
use Rattle.amqp_c.specs.Items.{IsScalarOf, IsScalarTag, IsStringTag, tag_and_zeros, Item, fixed_width, byte_string, encoded, IsPutEncoding}
use Rattle.amqp_c.specs.Growth.{IsOpen, IsEntryPut, IsOpened, IsClosed}

-- ---- faults

-- a fault of the place is right: no container is there in which nothing is open, or it can't have an entry with
-- this key
abbrev pub RefusesPlace : ℕ → Container → List ℕ → Fault → Type 0
RefusesPlace n into k Invalid = IsContainerIn n into → ⊥
RefusesPlace n into k BadKey = IsContainerIn n into × (IsKeyOf into k → ⊥)
RefusesPlace n into k _ = ⊥

-- a fault of a number is right: no value of fixed width has the type tag, or none with it has these
-- bits and this scale
abbrev pub RefusesNumber : ℕ → ℕ → ℕ → Fault → Type 0
RefusesNumber tag bits scale BadTag = IsScalarTag tag → ⊥
RefusesNumber tag bits scale OutOfRange = IsScalarTag tag × ((x : Scalar) → IsScalarOf tag bits scale x → ⊥)
RefusesNumber tag bits scale _ = ⊥

-- a fault of a long string or a byte array is right: the type tag is of neither, or the bytes are too many
abbrev pub IsStringFault : ℕ → List ℕ → Fault → Type 0
IsStringFault tag b BadTag = IsStringTag tag → ⊥
IsStringFault tag b TooLarge = IsStringTag tag × (2 ^ 32 ≤ length b)
IsStringFault tag b _ = ⊥

-- a fault of an item is right, wherever it is to be put
abbrev pub IsItemFault : Item → Fault → Type 0
IsItemFault (fixed_width tag bits scale) f = RefusesNumber tag bits scale f
IsItemFault (byte_string tag b) f = IsStringFault tag b f
IsItemFault (encoded rules input) f = IsReadFault rules input f

-- the buffer is too small for the entry of the item's encoding, and the fault has the capacity with which it isn't
abbrev pub IsBufferFault : Item → List ℕ → Container → List ℕ → Fault → Type 0
IsBufferFault item buffer into k f = (w : List ℕ) × IsPutEncoding item w × LacksRoom (end_with into k w) (length buffer) f

-- a fault of putting an item is right: that of the place, otherwise that of the item, otherwise that of
-- the buffer
abbrev pub IsPutFault : Item → List ℕ → Container → List ℕ → Fault → Type 0
IsPutFault item buffer into k f =
    RefusesPlace (length buffer) into k f
    ⊎ (IsPlace (length buffer) into k × (IsItemFault item f ⊎ IsBufferFault item buffer into k f))

-- a fault of opening an entry is right: that of the place, otherwise of the type tag, which is of no
-- container, otherwise of the buffer
abbrev pub RefusesToOpen : ℕ → List ℕ → Container → List ℕ → Fault → Type 0
RefusesToOpen tag buffer into k f =
    RefusesPlace (length buffer) into k f
    ⊎ (IsPlace (length buffer) into k
    × (((f ≡ BadTag) × (IsContainerTag tag → ⊥)) ⊎ (IsContainerTag tag × LacksRoom (end_with into k (tag_and_zeros tag)) (length buffer) f)))

-- a fault of closing an entry is right: the body isn't of one that is open there, or has too many bytes
abbrev pub RefusesToClose : List ℕ → Container → Container → Fault → Type 0
RefusesToClose buffer into body Invalid = (k : List ℕ) → IsOpen buffer into body k → ⊥
RefusesToClose buffer into body TooLarge = ((k : List ℕ) × IsOpen buffer into body k) × (2 ^ 32 ≤ body.written.length)
RefusesToClose buffer into body _ = ⊥

-- ---- calls

-- the container after a fault: as it was, except for the capacity that the buffer should have had
abbrev pub needing : Fault → Container → Container
needing (NoRoom n) c = record { written = c.written; tag = c.tag; inner = c.inner; any_keys = c.any_keys; needed = n }
needing _ c = c

-- the container with what is written of the one that is returned, or after the fault
abbrev pub grown_or_needing : Container → Result Container Fault → Container
grown_or_needing into (Ok grown) = record { written = grown.written; tag = into.tag; inner = into.inner; any_keys = into.any_keys; needed = into.needed }
grown_or_needing into (Err f) = needing f into

-- the container in which an entry is opened, or after the fault
abbrev pub opened_or_needing : Container → Result Container Fault → Container
opened_or_needing into (Ok body) = record { written = into.written; tag = into.tag; inner = 1; any_keys = into.any_keys; needed = into.needed }
opened_or_needing into (Err f) = needing f into

-- the container with what is written of the one that is returned, and nothing open in it
abbrev pub closed_or_old : Container → Result Container Fault → Container
closed_or_old into (Ok grown) = record { written = grown.written; tag = into.tag; inner = 0; any_keys = into.any_keys; needed = into.needed }
closed_or_old into (Err f) = into

-- an entry with the item is written or rejected; after an error the buffer is as it was, and so is the
-- container, which then has the capacity that is needed if the buffer is too small
pub record PutsEntry (item : Item) (old : List ℕ) (into : Container) (k : List ℕ) (code : ℤ) (new : List ℕ) (grown : Container) : Type 0 where
  pub done : Result Container Fault
  pub returned : code ≡ return_code_of done
  pub container : grown ≡ grown_or_needing into done
  pub put : MatchResult done (IsEntryPut item old into k new) (IsPutFault item old into k)
  pub stays : IfErr done (λ _. new ≡ old)

-- an entry is opened or rejected whose value is a container; after an error the buffer and the body
-- are as they were, and so is the container, except for the capacity that is needed
pub record OpensContainer (tag : ℕ) (old : List ℕ) (into : Container) (k : List ℕ) (was : Container) (code : ℤ) (new : List ℕ) (outer body : Container) : Type 0 where
  pub done : Result Container Fault
  pub returned : code ≡ return_code_of done
  pub container : outer ≡ opened_or_needing into done
  pub body_of : body ≡ ok_or_old was done
  pub opened : MatchResult done (IsOpened tag old into k new) (RefusesToOpen tag old into k)
  pub stays : IfErr done (λ _. new ≡ old)

-- an entry is closed whose value is a container, or rejected; after an error the buffer and the
-- container are as they were
pub record ClosesContainer (old : List ℕ) (into body : Container) (code : ℤ) (new : List ℕ) (grown : Container) : Type 0 where
  pub done : Result Container Fault
  pub returned : code ≡ return_code_of done
  pub container : grown ≡ closed_or_old into done
  pub closed : MatchResult done (IsClosed old into body new) (RefusesToClose old into body)
  pub stays : IfErr done (λ _. new ≡ old)
