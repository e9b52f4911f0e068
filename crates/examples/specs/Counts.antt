-- `CountsValues`: how many values the bytes of a reader begin with.
use Rattle.std.specs.Prelude.{ℕ, ◌≡◌, ◌<◌, Option, IfSome, List, [], length}
use Rattle.amqp_value_core.specs.Values.{Tree}
use Rattle.amq_protocol_types.specs.declared.parsing.within.Limits.{Limits}
use Rattle.amq_protocol_types.specs.stream.ReadSoFar.{BeginsWithValues}

-- the bytes begin with n values, each within the limits; if n is less than `most`, no byte follows
abbrev pub CountsValues : Limits → Option (List ℕ) → ℕ → ℕ → Type 0
CountsValues l bytes most n = IfSome bytes (λ s. (vs : List Tree) × (left : List ℕ) × BeginsWithValues l s vs left × (length vs ≡ n) × (n < most → left ≡ []))
