-- `Within`: reading within the limits `frame`, on bytes, and `depth`, on nesting. `RefusesWithin`
-- is about the errors, and `LawsWithin` has the laws.
use Rattle.std.specs.Prelude.{ℕ, ◌<◌, ◌≤◌, ◌≡◌, ◌/◌, ◌↔◌, IsTrue, List, ◌++◌, length}
use Rattle.amqp_value_core.specs.Values.{Tree, readable, depth}
use Rattle.amqp_value_core.specs.Grammar.{Wire}
use Rattle.amqp_value_core.specs.Headline.{IsWritableIn}
use Rattle.amqp_value_core.specs.Nesting.{WireWithin, OutcomeWithin}
use Rattle.amqp_value_core.specs.Bytes.{IsBytes}
use Rattle.amqp_value_core.specs.Outcomes.{Reading, found, more, unknown, malformed, Outcome, Heavy, StillWaits, with_more}
use Rattle.amqp_value_core.specs.Texts.{text, size, Fits}
use Rattle.amqp_value_core.specs.InMemory.{IsValue}
use Rattle.amq_protocol_types.specs.declared.parsing.errors.Err.TheVariants.{Incomplete, Error, Failure}
use Rattle.amq_protocol_types.specs.declared.parsing.errors.Needed.TheVariants.{Size}
use Rattle.amq_protocol_types.specs.declared.parsing.errors.ErrorKind.TheVariants.{MapOpt, Eof, OutOfMemory, TooLarge}
use Rattle.amq_protocol_types.specs.declared.parsing.header.Header.{Header}
use Rattle.amq_protocol_types.specs.declared.parsing.header.Header.TheVariants as header
use Rattle.amq_protocol_types.specs.declared.parsing.within.Limits.{Limits}
use Rattle.amq_protocol_types.specs.parsing.Refusals.{Refusal}
use Rattle.amq_protocol_types.specs.parsing.Headers.{extent, wanted, IsWholeValue}

-- Reading s within limits results in o. By what has come of it,
-- the value has no more bytes than the limit `frame` allows, and containers nest within the depth.
abbrev pub Within : Limits → List ℕ → Reading → Type 0
Within l s o = (extent s ≤ l.frame) × OutcomeWithin l.depth s o

-- An error of reading s within limits is right: as without limits, and `Eof` also if containers nest
-- too deep.
-- `TooLarge` means that the value has more bytes than the limit `frame` allows.
abbrev pub RefusesWithin : Limits → List ℕ → Refusal → Type 0
RefusesWithin l s (Error TooLarge) = l.frame < extent s
RefusesWithin l s (Incomplete (Size n)) = Within l s (more n)
RefusesWithin l s (Error MapOpt) = Within l s unknown
RefusesWithin l s (Error Eof) = Within l s malformed
RefusesWithin l s (Failure kind) = (extent s ≤ l.frame) × ((kind ≡ OutOfMemory) × Heavy s)
RefusesWithin l s _ = ⊥

-- reading s within limits results in exactly one outcome, and in none if the value is too large
abbrev pub HasOneOutcomeWithin : Limits → List ℕ → Type 0
HasOneOutcomeWithin l s =
    (extent s ≤ l.frame → (o : Reading) × Within l s o × ((p : Reading) → Within l s p → p ≡ o))
    × ((o : Reading) → l.frame < extent s → Within l s o → ⊥)

-- More bytes come after the rest of a value, lower the number that is needed, and keep an error.
abbrev pub KeepsOutcomeWithin : Limits → List ℕ → Type 0
KeepsOutcomeWithin l s =
    ((o : Reading) (t : List ℕ) → Within l s o → StillWaits o t → Within l (s ++ t) (with_more o t))
    × ((t : List ℕ) → l.frame < extent s → l.frame < extent (s ++ t))

-- the canonical encoding of v is read as v within the limits, whatever follows
abbrev pub IsReadAgain : Limits → Tree → Type 0
IsReadAgain l v = (t : List ℕ) → Within l (text v ++ t) (found v t)

-- so it is of each value that can be written and read, and keeps to the limits
abbrev pub ReadsBack : Limits → Type 0
ReadsBack l = (v : Tree) → IsValue v → Fits v → IsTrue (readable v) → depth v ≤ l.depth → size v ≤ l.frame → IsReadAgain l v

-- of the encodings of v within a depth none is shorter than its canonical one, which is among them
abbrev pub IsShortestWithin : ℕ → Tree → Type 0
IsShortestWithin d v = (w : List ℕ) → IsBytes w → WireWithin d w v → WireWithin d (text v) v × (length (text v) ≤ length w)

-- among values that have encodings within a depth the canonical one of v is that of no other
abbrev pub TellsApartWithin : ℕ → Tree → Type 0
TellsApartWithin d v = (u : Tree) (w x : List ℕ) → IsBytes w → IsBytes x → WireWithin d w v → WireWithin d x u → (text v ≡ text u) ↔ (v ≡ u)

-- bytes are an encoding exactly when they are one within each depth from a fifth of their length on
abbrev pub IsDeepEnough : Type 0
IsDeepEnough = (w : List ℕ) (v : Tree) → Wire w v ↔ ((d : ℕ) → length w / 5 ≤ d → WireWithin d w v)

-- laws of reading s within limits, whatever the result is
pub record LawsWithin (l : Limits) (s : List ℕ) : Type 0 where
  -- it has one outcome, which more bytes keep
  pub one : HasOneOutcomeWithin l s
  pub more_bytes : KeepsOutcomeWithin l s
  -- what is written of a value that keeps the limits is read back
  pub read_back : ReadsBack l
  -- a depth of a fifth of an encoding's length is no limit
  pub deep_enough : IsDeepEnough

-- what v is that was read within limits from an encoding of n bytes
pub record IsReadWithin (l : Limits) (n : ℕ) (v : Tree) : Type 0 where
  -- the encoding is within the limit `frame`
  pub frame : n ≤ l.frame
  -- v is no larger than its encoding, and nests at most as deep as the limit allows
  pub bounded : IsWritableIn n v
  pub depth : depth v ≤ l.depth
  -- its canonical encoding is read as it within the limits, is a shortest one, and no other value's
  pub read_again : IsReadAgain l v
  pub shortest : IsShortestWithin l.depth v
  pub injective : TellsApartWithin l.depth v

-- what a header determines, if no value may have more than `frame` bytes
abbrev pub IsHeader : ℕ → List ℕ → Header → Type 0
IsHeader frame s header.Unknown = Outcome s unknown × (extent s ≤ frame)
IsHeader frame s header.TooLarge = frame < extent s
IsHeader frame s (header.Lacks n) = (extent s ≤ frame) × (0 < n) × (n ≡ wanted s)
IsHeader frame s header.Whole = (extent s ≤ frame) × IsWholeValue s
