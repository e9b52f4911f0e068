-- Results of reading in place: the value that is read (`IsReadInPlaceWithin`), the bytes that are
-- left (`IsLeft`), and errors (`HeadRefuses`, `NeedsNoMemory`).
use Rattle.std.specs.Prelude.{ℕ, ◌≡◌, ◌+◌, List, ◌++◌, length}
use Rattle.amqp_value_core.specs.Values.{Tree}
use Rattle.amqp_value_core.specs.Outcomes.{Reading, found, unknown, Outcome}
use Rattle.amqp_value_core.specs.Nesting.{OutcomeWithin}
use Rattle.amqp_in_place.specs.declared.refs.ValueRef.{ValueRef}
use Rattle.amqp_in_place.specs.Refs.{Denotes}
use Rattle.amq_protocol_types.specs.declared.parsing.errors.Err.TheVariants.{Failure}
use Rattle.amq_protocol_types.specs.declared.parsing.errors.ErrorKind.TheVariants.{MapOpt}
use Rattle.amq_protocol_types.specs.parsing.ParseResults.{RefusesAs}
use Rattle.amq_protocol_types.specs.parsing.Refusals.{Refusal}

-- the error isn't a `Failure`: no allocation failed
abbrev pub NeedsNoMemory : Refusal → Type 0
NeedsNoMemory (Failure kind) = ⊥
NeedsNoMemory _ = Unit {0}

-- an error of reading a type tag and a length is right: if enough bytes are there, the type tag
-- denotes no type
abbrev pub HeadRefuses : (Reading → Type 0) → Refusal → Type 0
HeadRefuses Is e = RefusesAs (λ kind. (kind ≡ MapOpt) × Is unknown) Is ⊥ e

-- a value is read from the start of s, in which containers nest at most d deep: `view` denotes it,
-- and `rest` is after it
abbrev pub IsReadInPlaceWithin : ℕ → List ℕ → ValueRef → List ℕ → Type 0
IsReadInPlaceWithin d s view rest = (v : Tree) × Denotes view v × OutcomeWithin d s (found v rest)

-- s ends in `rest`, after some bytes w
abbrev pub IsLeft : List ℕ → List ℕ → Type 0
IsLeft s rest = (w : List ℕ) × (s ≡ w ++ rest)

-- if a value is read from the start of s, it has n bytes
abbrev pub IsWidthOfFound : List ℕ → ℕ → Type 0
IsWidthOfFound s n = (v : Tree) (rest : List ℕ) → Outcome s (found v rest) → length s ≡ n + length rest
