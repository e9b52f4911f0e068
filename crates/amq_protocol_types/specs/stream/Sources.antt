-- Calls of a `Source`, one after another (`SourceReaches`), and how its errors are passed on
-- (`KeepsKind`).
use Rattle.std.specs.Prelude.{◌≡◌, ◌≤◌, ◌++◌, ℕ, List, length, Result, Err}
use Rattle.std.specs.declared.io.ErrorKind.{ErrorKind}
use Rattle.std.specs.Io.KnownBytes.{Consumes}
use Rattle.amq_protocol_types.specs.declared.stream.error.StreamError.{StreamError}
use Rattle.amq_protocol_types.specs.declared.stream.source.Source.{Ghosts}
use Rattle.amq_protocol_types.specs.declared.stream.error.StreamError.TheVariants as stream

-- from one state of a source to another, by calls that returned no error
pub data SourceReaches {S : Type 0} (goes : S → S → Type 0) : S → S → Type 0 where
  here : (s : S) → SourceReaches goes s s
  there : (s t u : S) → SourceReaches goes s t → goes t u → SourceReaches goes s u

-- from one state to another, by calls of which only the last returned an error, of this kind
abbrev pub SourceStops : {S : Type 0} → (S → S → Type 0) → (S → ErrorKind → S → Type 0) → S → ErrorKind → S → Type 0
SourceStops {S} goes fails from kind to = (last : S) × SourceReaches goes from last × fails last kind to

-- An error of a source is returned as `Read`, with its kind.
-- Any other result comes only if no call of the source returned an error.
abbrev pub KeepsKind : {S T : Type 0} → (S → S → Type 0) → (S → ErrorKind → S → Type 0) → S → Result T StreamError → S → Type 0
KeepsKind goes fails from (Err (stream.Read kind)) to = SourceStops goes fails from kind to
KeepsKind goes fails from _ to = SourceReaches goes from to

-- the result is no error of a source
abbrev pub IsNoRead : {T : Type 0} → Result T StreamError → Type 0
IsNoRead (Err (stream.Read kind)) = ⊥
IsNoRead _ = Unit {0}

-- a fault of the reader, or a failed allocation
abbrev pub IsPassing : StreamError → Type 0
IsPassing (stream.Read kind) = Unit {0}
IsPassing stream.OutOfMemory = Unit {0}
IsPassing _ = ⊥

-- these bytes came from the source, if it reports its bytes
abbrev pub GivesBytes : {S : Type 0} → Ghosts S → S → List ℕ → S → Type 0
GivesBytes source from bytes to = Consumes (source.remaining from) (source.remaining to) bytes

-- n bytes came from the source, at most `most`, and are retained after those before them
pub record GainsBytes {S : Type 0} (source : Ghosts S) (most : ℕ) (old : List ℕ) (from : S) (new : List ℕ) (to : S) (n : ℕ) : Type 0 where
  pub bytes : List ℕ
  pub count : length bytes ≡ n
  pub bounded : n ≤ most
  pub retained : new ≡ old ++ bytes
  pub given : GivesBytes source from bytes to
