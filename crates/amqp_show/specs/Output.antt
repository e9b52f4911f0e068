-- `AddsText`: what is added to a `Screen`. `code_of`: the exit status that the program ends with.
use Rattle.std.specs.Prelude.{◌≡◌, ℕ, Bool, true, false, Result, Ok, Err, List, [], ◌∷◌, ◌++◌, string_bytes}
use Rattle.amq_protocol_types.specs.declared.parsing.within.Limits.{Limits}
use Rattle.amqp_json.specs.Conversions.{IsJsonOf}
use Rattle.amqp_show.specs.Plain.{IsPlainOf}
use Rattle.amqp_show.specs.Screens.{in_line}
use Rattle.amqp_show.specs.declared.fault.Fault.{Fault}
use Rattle.amqp_show.specs.declared.fault.Fault.TheVariants.{OutOfMemory, Input, NotHexadecimal, Short, Closed, Output, Terminal}
use Rattle.amqp_show.specs.declared.fault.Status.{Status}
use Rattle.amqp_show.specs.declared.fault.Status.TheVariants.{Read, Warned, Beyond, Closes, Rejected, Mistake}
use Rattle.amqp_show.specs.declared.screen.Screen.{Screen}

-- the bytes that are printed
abbrev pub shown : Screen → List ℕ
shown s = string_bytes s.text

-- more comes after what was there before
pub record AddsText (old new : Screen) (more : List ℕ) : Type 0 where
  pub text : shown new ≡ shown old ++ more
  pub colours : new.has_colours ≡ old.has_colours

-- a line of these texts
abbrev pub AddsLine : List ℕ → List ℕ → List ℕ → Screen → Screen → Type 0
AddsLine begin t end old new = AddsText old new (in_line begin ++ (in_line t ++ (in_line end ++ 10 ∷ [])))

-- the JSON text of the value at the start of s within the limits, between two texts on a line, in which what doesn't
-- print is escaped
abbrev pub AddsJsonLine : Limits → List ℕ → List ℕ → List ℕ → Screen → Screen → Type 0
AddsJsonLine l begin s end old new = (t : List ℕ) × (rest : List ℕ) × IsJsonOf l s t rest × AddsLine begin t end old new

-- so of plain JSON
abbrev pub AddsPlainLine : Limits → List ℕ → List ℕ → List ℕ → Screen → Screen → Type 0
AddsPlainLine l begin s end old new = (t : List ℕ) × IsPlainOf l s t × AddsLine begin t end old new

-- the number of a status: 0 if each value was read without warnings, 2 if the program couldn't do its work
abbrev pub code_of : Status → ℕ
code_of Read = 0
code_of Rejected = 1
code_of Mistake = 2
code_of Beyond = 3
code_of Closes = 4
code_of Warned = 5

-- from the best to the worst
abbrev pub rank_of : Status → ℕ
rank_of Read = 0
rank_of Warned = 1
rank_of Beyond = 2
rank_of Closes = 3
rank_of Rejected = 4
rank_of Mistake = 5

-- whether each value was read, or accepted if that was checked
abbrev pub is_read : Status → Bool
is_read Read = true
is_read Warned = true
is_read Beyond = false
is_read Closes = false
is_read Rejected = false
is_read Mistake = false

-- after a fault the program has made no more than a mistake, unless nobody reads its output any more
abbrev pub status_after : Result Status Fault → Status
status_after (Ok s) = s
status_after (Err Closed) = Read
status_after (Err OutOfMemory) = Mistake
status_after (Err (Input e)) = Mistake
status_after (Err (NotHexadecimal e)) = Mistake
status_after (Err (Short n)) = Mistake
status_after (Err (Output e)) = Mistake
status_after (Err Terminal) = Mistake
