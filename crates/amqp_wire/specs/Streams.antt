-- `stream_text`: the lines that `run_stream` writes for a stream. `AreLines`: they are those of the
-- values that the stream begins with.
use Rattle.std.specs.Prelude.{◌≡◌, ◌≤◌, ◌<◌, ℕ, zero, suc, Bool, true, false, Option, Some, None, List, [], ◌∷◌, ◌++◌, length, take, codes}
use Rattle.hex.specs.Hex.{encode_lower}
use Rattle.amqp_value_core.specs.Values.{Tree}
use Rattle.amqp_value_core.specs.Nesting.{WireWithin}
use Rattle.amqp_value_core.specs.Bytes.{IsBytes}
use Rattle.amqp_value_core.specs.Outcomes.{Reading, found, more, unknown, malformed}
use Rattle.amqp_value_core.specs.Texts.{text}
use Rattle.amq_protocol_types.specs.declared.parsing.within.Limits.{Limits}
use Rattle.amq_protocol_types.specs.stream.ReadSoFar.{BeginsWithValues}
use Rattle.amqp_wire.specs.Lines.{read_within}

-- the line of a value
abbrev pub value_line : Tree → List ℕ
value_line v = codes "value " ++ (encode_lower (text v) ++ 10 ∷ [])

-- the last line, if no value begins: nothing is left, or a value is cut, or it is rejected
abbrev pub cut_line : List ℕ → List ℕ
cut_line [] = codes "end\n"
cut_line (c ∷ s) = codes "truncated\n"

abbrev pub last_line : List ℕ → Option Reading → List ℕ
last_line s None = codes "refused TooLarge\n"
last_line s (Some unknown) = codes "refused MapOpt\n"
last_line s (Some malformed) = codes "refused Eof\n"
last_line s (Some (more n)) = cut_line s
last_line s (Some (found v rest)) = []

-- by what reading s results in: the line of a value, and the lines of what is left after it, or a
-- last line
abbrev pub stream_step : (List ℕ → List ℕ) → List ℕ → Option Reading → List ℕ
stream_step others s (Some (found v rest)) = value_line v ++ others rest
stream_step others s o = last_line s o

-- the lines of a stream: of at most n values, and a last line if there are fewer
abbrev pub stream_text : Limits → ℕ → List ℕ → List ℕ
stream_text l zero s = []
stream_text l (suc n) s = stream_step (stream_text l n) s (read_within l s)

-- ---- what a stream begins with, as a relation

-- s begins with no value within the limits
abbrev pub BeginsNone : Limits → List ℕ → Type 0
BeginsNone l s = (w rest : List ℕ) (v : Tree) → s ≡ w ++ rest → WireWithin l.depth w v → length w ≤ l.frame → ⊥

-- the values of a stream, as many as are one after another, and what is left after them
abbrev pub AreStreamValues : Limits → List ℕ → List Tree → List ℕ → Type 0
AreStreamValues l s vs left = BeginsWithValues l s vs left × BeginsNone l left

-- the lines of values
abbrev pub value_lines : List Tree → List ℕ
value_lines [] = []
value_lines (v ∷ vs) = value_line v ++ value_lines vs

-- the lines of a stream are those of its first values, or if there are fewer those of all and a
-- last line
abbrev pub AreLines : Limits → ℕ → List ℕ → Type 0
AreLines l most s = (vs : List Tree) (left : List ℕ) → AreStreamValues l s vs left
    → (most ≤ length vs → stream_text l most s ≡ value_lines (take most vs))
    × (length vs < most → stream_text l most s ≡ value_lines vs ++ last_line left (read_within l left))

-- each stream has values, if only zero, and its lines are theirs
abbrev pub HasLines : Limits → ℕ → Type 0
HasLines l most = (s : List ℕ) → IsBytes s → ((vs : List Tree) × (left : List ℕ) × AreStreamValues l s vs left) × AreLines l most s

-- if s begins with n values, all after them is left
abbrev pub LeavesAfterValues : Limits → ℕ → List ℕ → Option (List ℕ) → Type 0
LeavesAfterValues l n s now = (vs : List Tree) (left : List ℕ) → BeginsWithValues l s vs left → length vs ≡ n → now ≡ Some left

-- ---- one line

-- a line of the stream s, and whether it is a value's, after which `left` is left; otherwise it is
-- the last line
abbrev pub IsLine : Limits → List ℕ → Option (List ℕ) → List ℕ → Bool → Type 0
IsLine l s left line true = (v : Tree) × (rest : List ℕ) × IsBytes rest × (read_within l s ≡ Some (found v rest)) × BeginsWithValues l s (v ∷ []) rest × (line ≡ value_line v) × (left ≡ Some rest)
IsLine l s left line false = (line ≡ last_line s (read_within l s)) × BeginsNone l s
