-- `ReadsAs`, `IsEntryOf`, `IsMeasured` and `TellsCanonical`: reading the value at the start of an
-- input, measuring it, and whether it is encoded canonically.
use Rattle.std.specs.Prelude.{ℕ, ◌≡◌, ◌+◌, ℤ, pos, List, length, Option, None, Result, Ok, Err, ◌≤◌, Bool, true, false, ◌++◌, drop, IfSome, MatchOption}
use Rattle.amqp_value_core.specs.declared.types.amqp_type.AMQPType.TheVariants.{FieldTable}
use Rattle.amqp_value_core.specs.Ids.{id_of}
use Rattle.amqp_value_core.specs.Values.{Tree, table, Entries, count, depth}
use Rattle.amqp_value_core.specs.Outcomes.{found, Outcome}
use Rattle.amqp_value_core.specs.Bytes.{IsBytes}
use Rattle.amqp_value_core.specs.Texts.{text}
use Rattle.amq_protocol_types.specs.declared.parsing.within.Limits.{Limits}
use Rattle.amq_protocol_types.specs.parsing.Limits.{Within}
use Rattle.amq_protocol_types.specs.parsing.Untagged.{UntaggedWithin, tagged}
use Rattle.amq_protocol_types.specs.parsing.Bodies.{IsLengthPrefixed}
use Rattle.amq_protocol_types.specs.parsing.Headers.{extent}
use Rattle.amqp_in_place.specs.Bodies.{HasEntries}
use Rattle.amqp_in_place.specs.declared.problems.Rules.{Rules}
use Rattle.amqp_in_place.specs.declared.problems.Rules.TheVariants.{Reading}
use Rattle.amqp_in_place.specs.declared.measure.Measure.{Measure}
use Rattle.amqp_in_place.specs.declared.refs.ValueRef.{ValueRef}
use Rattle.amqp_in_place.specs.Written.{OfEncoding, written}
use Rattle.amqp_in_place.specs.Places.{IsViewIn}
use Rattle.amqp_in_place.specs.ProblemResults.{FailsAt}
use Rattle.amqp_in_place.specs.Refs.{Denotes}
use Rattle.amqp_c.specs.declared.entry.Entry.{Entry}
use Rattle.amqp_c.specs.declared.fault.Fault.{Fault}
use Rattle.amqp_c.specs.declared.input.Input.{Input}
use Rattle.amqp_c.specs.declared.read.Size.{Size}
use Rattle.amqp_c.specs.declared.problem.Problem.{Problem}
use Rattle.amqp_c.specs.declared.problem.ReadError.{ReadError}
use Rattle.amqp_c.specs.CallResults.{code_of}
use Rattle.amqp_c.specs.Entries.{part, IsEntry, IsEntryAtStart, EntryIsIn, GivesFirst}
use Rattle.amqp_c.specs.Inputs.{limits, is_untagged, encoding, first_problem, read_error, IsReadFault}

-- a value is read within limits from the start of s, and e is its entry, without a key, all of it inside s
pub record IsValueTaken (l : Limits) (s : List ℕ) (e : Entry) : Type 0 where
  pub meaning : Tree
  pub rest : List ℕ
  pub read : Within l s (found meaning rest)
  pub taken : e.value.length + length rest ≡ length s
  pub entry : IsEntry s e meaning
  pub at_start : IsEntryAtStart s e
  pub inside : EntryIsIn (length s) e

-- the entry of a table without its type tag at the start, whose body has n bytes after its length
abbrev pub untagged_table : ℕ → Entry
untagged_table n = record { key = record { offset = 0; length = 0 }; value = record { offset = 0; length = 4 + n }; content = record { offset = 4; length = n }; bits = 0; tag = id_of FieldTable; scale = 0 }

-- a table without its type tag is read within limits from the start of s: e is its entry, and has its
-- pairs as content
pub record IsTableTaken (l : Limits) (s : List ℕ) (e : Entry) : Type 0 where
  pub entries : Entries
  pub rest : List ℕ
  pub read : UntaggedWithin l FieldTable s (found (table entries) rest)
  pub taken : e.value.length + length rest ≡ length s
  pub pairs : HasEntries (part s e.content) entries
  pub entry : e ≡ untagged_table e.content.length

-- e is the entry of the value at the start of s, by its type tag and its length
pub record IsFirstEntry (s : List ℕ) (e : Entry) : Type 0 where
  pub at_start : IsEntryAtStart s e
  pub inside : EntryIsIn (length s) e
  pub faithful : (v : Tree) (rest : List ℕ) → Outcome s (found v rest) → GivesFirst s v rest (Ok e)

-- the content of e is the pairs of the table, and its value all but the rest of s
abbrev pub GivesTable : List ℕ → Tree → List ℕ → Entry → Type 0
GivesTable s (table es) rest e = HasEntries (part s e.content) es × (e.value.length + length rest ≡ length s)
GivesTable s _ rest e = ⊥

-- e is the entry of a table without its type tag, which has all the bytes that its length counts
pub record IsFirstTable (s : List ℕ) (e : Entry) : Type 0 where
  pub entry : e ≡ untagged_table e.content.length
  pub size : 1 + e.value.length ≡ extent (tagged FieldTable s)
  pub inside : e.value.length ≤ length s
  pub faithful : (v : Tree) (rest : List ℕ) → Outcome (tagged FieldTable s) (found v rest) → GivesTable s v rest e

-- e is the entry of the value at the start of the input, by its type tag and its length
abbrev pub IsEntryBy : Bool → List ℕ → Entry → Type 0
IsEntryBy true = IsFirstTable
IsEntryBy false = IsFirstEntry

abbrev pub IsEntryOf : Input → Entry → Type 0
IsEntryOf input = IsEntryBy (is_untagged input) input.bytes.now

-- and of the value that the grammar has there, which is read within the limits
abbrev pub IsReadBy : Bool → Limits → List ℕ → Entry → Type 0
IsReadBy true = IsTableTaken
IsReadBy false = IsValueTaken

abbrev pub IsReadEntry : Input → Entry → Type 0
IsReadEntry input = IsReadBy (is_untagged input) (limits input) input.bytes.now

-- the first problem by the rules of reading says how reading by the grammar fails
abbrev pub FailsByGrammar : Input → Type 0
FailsByGrammar input = IfSome (first_problem Reading input) (λ p. FailsAt (limits input) (encoding input) p.offset p.kind)

-- a problem is inside the bytes
abbrev pub HasProblemInside : Rules → Input → Type 0
HasProblemInside rules input = IfSome (first_problem rules input) (λ p. p.offset ≤ length input.bytes.now)

-- what reading returns. Without an error it is 0, and what `Is` states is given; otherwise it is the code of the
-- error, whose place is given. What isn't given is unchanged
pub record ReadsAs {T : Type 0} (Is : T → Type 0) (error : Option ReadError) (old : T) (was : Problem) (code : ℤ) (new : T) (stored : Problem) : Type 0 where
  pub returned : MatchOption error (code ≡ pos 0) (λ e. code ≡ code_of e.fault)
  pub given : MatchOption error (Is new) (λ e. new ≡ old)
  pub problem : MatchOption error (stored ≡ was) (λ e. stored ≡ e.problem)

-- ---- measuring

-- these numbers in C's struct
abbrev pub same_measure : Measure → Size
same_measure m = record { bytes = m.bytes; values = m.values; levels = m.levels }

-- the value at the start of s is read within the limits, and ends after the first n.bytes of `given`, which are s,
-- perhaps without its type tag; n.values values are written in its encoding, whose containers nest n.levels levels
-- deep, and its tree has no more of either
pub record HasSize (n : Size) (l : Limits) (given s : List ℕ) : Type 0 where
  pub meaning : Tree
  pub read : Within l s (found meaning (drop n.bytes given))
  pub inside : n.bytes ≤ length given
  pub values : OfEncoding s (λ w v p. n.values ≡ count (written w v p))
  pub levels : OfEncoding s (λ w v p. n.levels ≡ depth (written w v p))
  pub tree : OfEncoding s (λ w v p. (count v ≤ n.values) × (depth v ≤ n.levels))

abbrev pub IsMeasured : Input → Size → Type 0
IsMeasured input n = HasSize n (limits input) input.bytes.now (encoding input)

-- ---- whether it is canonical

-- a value is read from s, whose encoding is what is written for it, or is another
abbrev pub IsEncodedSo : Bool → Input → Type 0
IsEncodedSo true input = (v : Tree) × (rest : List ℕ) × Within (limits input) (encoding input) (found v rest) × (encoding input ≡ text v ++ rest)
IsEncodedSo false input = (v : Tree) × (rest : List ℕ) × Within (limits input) (encoding input) (found v rest) × (encoding input ≡ text v ++ rest → ⊥)

-- whether it is, or why no value is read
abbrev pub IsTold : Input → Result Bool Fault → Type 0
IsTold input (Ok b) = (read_error Reading input ≡ None) × IsEncodedSo b input
IsTold input (Err f) = IsReadFault Reading input f

-- the result: 0 if it is canonical, 1 if not
abbrev pub code_if_told : Result Bool Fault → ℤ
code_if_told (Ok true) = pos 0
code_if_told (Ok false) = pos 1
code_if_told (Err f) = code_of f

abbrev pub TellsCanonical : Input → ℤ → Type 0
TellsCanonical input code = (done : Result Bool Fault) × IsTold input done × (code ≡ code_if_told done)

-- ---- on the way

-- a value is read from the start of s within the limits, `view` refers to it, and `rest` is after it
abbrev pub IsViewOf : Limits → List ℕ → ValueRef → List ℕ → Type 0
IsViewOf l s view rest = IsBytes s × IsViewIn s view rest × ((v : Tree) × Denotes view v × Within l s (found v rest))

-- e is the entry of a table without its type tag, whose body is after its length
abbrev pub IsPrefixedTable : List ℕ → Entry → Type 0
IsPrefixedTable s e = (body : List ℕ) × (rest : List ℕ) × IsLengthPrefixed s body rest × (e ≡ untagged_table (length body))
