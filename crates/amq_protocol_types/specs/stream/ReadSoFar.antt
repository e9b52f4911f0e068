-- `BeginsWithValues`: which values bytes begin with. `HasRead`: what a loop has read from a
-- `ValueReader`, or by `Values`. The law `loop_over_values` has its steps.
use Rattle.std.specs.Prelude.{ℕ, ◌≤◌, ◌≡◌, ◌++◌, false, Option, Some, IfSome, Err, List, [], ◌∷◌, length}
use Rattle.amqp_value_core.specs.Values.{Tree}
use Rattle.amqp_value_core.specs.Nesting.{WireWithin}
use Rattle.amq_protocol_types.specs.declared.parsing.within.Limits.{Limits}
use Rattle.amq_protocol_types.specs.declared.stream.error.StreamError.{StreamError}
use Rattle.amq_protocol_types.specs.declared.stream.values.Values.{Values}
use Rattle.amq_protocol_types.specs.stream.Readers.{kept, has_failed, limits_of, IsOutcomeOfAll}

-- s begins with encodings of these values, one after another, each within the limits, and `left` is
-- what follows them
abbrev pub BeginsWithValues : Limits → List ℕ → List Tree → List ℕ → Type 0
BeginsWithValues l s [] left = s ≡ left
BeginsWithValues l s (v ∷ vs) left = (w : List ℕ) × (rest : List ℕ) × (s ≡ w ++ rest) × WireWithin l.depth w v × (length w ≤ l.frame) × BeginsWithValues l rest vs left

-- a loop has read the values vs from a reader that had the bytes `first` when it began, and has the
-- bytes `now` after them; of a reader that reports no bytes, nothing is said of values
pub record HasRead (l : Limits) (first : Option (List ℕ)) (vs : List Tree) (values : Values) (now : Option (List ℕ)) : Type 0 where
  pub limits : limits_of values ≡ l
  -- no call has failed for good
  pub not_failed : has_failed values ≡ false
  -- encodings of vs, then the bytes that are retained of the next value, and then those that the
  -- reader has left
  pub read : IfSome first (λ s. (left : List ℕ) × (now ≡ Some left) × BeginsWithValues l s vs (kept values ++ left))

-- the bytes `first` are encodings of the values vs and nothing else
abbrev pub AreAllValues : Limits → Option (List ℕ) → List Tree → Type 0
AreAllValues l first vs = IfSome first (λ s. BeginsWithValues l s vs [])

-- the bytes `first` begin with encodings of the values vs, and this error is right of those that follow
abbrev pub EndsAfterValues : Limits → Option (List ℕ) → List Tree → StreamError → Type 0
EndsAfterValues l first vs e = IfSome first (λ s. (left : List ℕ) × (now : Option (List ℕ)) × BeginsWithValues l s vs left × IsOutcomeOfAll l left now (Err e))
