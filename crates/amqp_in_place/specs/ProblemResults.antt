-- What a result of `first_problem` says about reading: a value is read (`FindsValue`), or how that
-- fails (`FailsAt`). `GoesOver` is the result for one entry.
use Rattle.std.specs.Prelude.{ℕ, zero, ◌≡◌, ◌<◌, ◌≤◌, List, Option, Some, None, Result, Ok, Err}
use Rattle.amqp_value_core.specs.Values.{Tree}
use Rattle.amqp_value_core.specs.Outcomes.{found, more, unknown, malformed}
use Rattle.amq_protocol_types.specs.declared.parsing.within.Limits.{Limits}
use Rattle.amq_protocol_types.specs.parsing.Headers.{extent}
use Rattle.amq_protocol_types.specs.parsing.Limits.{Within}
use Rattle.amqp_in_place.specs.declared.problems.Problem.{Problem}
use Rattle.amqp_in_place.specs.declared.problems.ProblemKind.{ProblemKind}
use Rattle.amqp_in_place.specs.declared.problems.ProblemKind.TheVariants.{UnknownTag, Cut, TooLarge}

-- of an entry that has `len` bytes, of `most` that are left: the first problem, or `len` if there is
-- none
abbrev pub GoesOver : Option Problem → ℕ → ℕ → Result ℕ Problem → Type 0
GoesOver first len most (Ok n) = (first ≡ None) × (n ≡ len) × (0 < n) × (n ≤ most)
GoesOver first len most (Err p) = (first ≡ Some p) × (p.offset ≤ most)

-- reading s within the limits finds a value
abbrev pub FindsValue : Limits → List ℕ → Type 0
FindsValue l s = (v : Tree) × (rest : List ℕ) × Within l s (found v rest)

-- what reading s within the limits results in instead, by the offset and the kind of the first
-- problem: at 0 it needs more bytes, the first byte is no type tag, or the value is too large; by
-- any other problem a complete value is malformed
abbrev pub FailsAt : Limits → List ℕ → ℕ → ProblemKind → Type 0
FailsAt l s zero Cut = (n : ℕ) × Within l s (more n)
FailsAt l s zero (UnknownTag c) = Within l s unknown
FailsAt l s zero TooLarge = l.frame < extent s
FailsAt l s _ _ = Within l s malformed
