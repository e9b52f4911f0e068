-- `IsViewOfRead`, a `ValueRef` is the view of a value that was read, and `WritesText`, its JSON
-- text is written to a buffer: for the clauses of `src/printing.rt`.
use Rattle.std.specs.Prelude.{ℕ, ◌≡◌, ◌≤◌, List, ◌++◌, length, drop}
use Rattle.amqp_in_place.specs.declared.refs.ValueRef.{ValueRef}
use Rattle.amqp_in_place.specs.Places.{IsViewIn}
use Rattle.amqp_in_place.specs.Refs.{Denotes}
use Rattle.amq_protocol_types.specs.declared.parsing.within.Limits.{Limits}
use Rattle.amq_protocol_types.specs.parsing.Limits.{Within}
use Rattle.amqp_value_core.specs.Bytes.{IsBytes}
use Rattle.amqp_value_core.specs.Outcomes.{Outcome, found, read_back}
use Rattle.amqp_value_core.specs.Texts.{text}
use Rattle.amqp_value_core.specs.Values.{Tree}
use Rattle.amqp_json.specs.Conversions.{IsJsonOf}
use Rattle.amqp_in_place.specs.Written.{IsWrittenAs}
use Rattle.amqp_json.specs.Written.{HasJson, counted}

-- the view is of a value that has a JSON text, as it is written
abbrev pub HasText : ValueRef → Type 0
HasText r = (t : Tree) × IsWrittenAs r t × HasJson t

-- what reading the canonical encoding results in, whatever follows
abbrev pub IsReadBack : Tree → Type 0
IsReadBack v = (rest : List ℕ) → Outcome (text v ++ rest) (read_back v rest)

-- a value is read from the start of s within the limits, `view` denotes it, and `rest` is after it
abbrev pub IsViewOfRead : Limits → List ℕ → ValueRef → List ℕ → Type 0
IsViewOfRead l s view rest = IsBytes s × IsViewIn s view rest × ((v : Tree) × Denotes view v × Within l s (found v rest))

-- the text of the value has n bytes, and if these fit the buffer, it is at their start
abbrev pub WritesText : Limits → List ℕ → List ℕ → List ℕ → List ℕ → ℕ → Type 0
WritesText l s rest old new n = (t : List ℕ) × IsJsonOf l s t rest × (n ≡ counted t) × (n ≤ length old → (n ≡ length t) × (new ≡ t ++ drop n old))
