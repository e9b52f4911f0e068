-- `ReadsNext`: what a call for the next value of a `ValueReader` or `Values` returns and retains.
use Rattle.std.specs.Prelude.{ℕ, ◌<◌, ◌≤◌, ◌≡◌, ◌++◌, Bool, true, false, Option, Some, None, IfSome, Result, Ok, Err, List, [], length}
use Rattle.std.specs.Io.KnownBytes.{Consumes, IsAtEnd}
use Rattle.amq_protocol_types.specs.declared.stream.error.StreamError.{StreamError}
use Rattle.amq_protocol_types.specs.declared.stream.error.StreamError.TheVariants as stream
use Rattle.amqp_value_core.specs.declared.value.AMQPValue.{AMQPValue}
use Rattle.amqp_value_core.specs.Nesting.{WireWithin}
use Rattle.amqp_value_core.specs.View.{view}
use Rattle.amqp_value_core.specs.Outcomes.{found, more}
use Rattle.amq_protocol_types.specs.declared.parsing.errors.Err.TheVariants.{Error}
use Rattle.amq_protocol_types.specs.declared.parsing.within.Limits.{Limits}
use Rattle.amq_protocol_types.specs.declared.stream.reader.ValueReader.{ValueReader}
use Rattle.amq_protocol_types.specs.declared.stream.source.Source.{Ghosts}
use Rattle.amq_protocol_types.specs.declared.stream.values.Values.{Values}
use Rattle.amq_protocol_types.specs.stream.Sources.{KeepsKind}
use Rattle.amq_protocol_types.specs.parsing.Headers.{IsWaiting}
use Rattle.amq_protocol_types.specs.parsing.Limits.{Within, RefusesWithin}

-- the bytes that are retained of a value that hasn't all come
abbrev pub kept : Values → List ℕ
kept r = r.pending

abbrev pub has_failed : Values → Bool
has_failed r = r.failed

abbrev pub limits_of : Values → Limits
limits_of r = r.limits

-- a `ValueReader` is the state between two values, and a reader
abbrev pub values_of : {R : Type 0} → ValueReader R → Values
values_of r = r.values

abbrev pub reader_of : {R : Type 0} → ValueReader R → R
reader_of r = r.reader

-- what a call for the next value returns
abbrev pub NextResult : Type 0
NextResult = Result (Option AMQPValue) StreamError

-- P, unless an earlier call failed for good
abbrev pub UnlessFailed : Values → Type 0 → Type 0
UnlessFailed r P = has_failed r ≡ false → P

-- A call for the next value may return this and lead to the state `new`, if s is what was retained
-- and then what came (of a reader that reports no bytes, any list), and `left` is what the reader
-- has left: a value, which s encodes; none, if nothing was retained or came, and the reader is at
-- its end; that s is rejected, as no shorter prefix is; that s is cut, if the reader is at its end.
-- After a fault of the reader, or of an allocation, all of s is retained.
abbrev pub IsOutcomeOf : Limits → List ℕ → Option (List ℕ) → NextResult → Values → Type 0
IsOutcomeOf l s left (Ok (Some v)) new = WireWithin l.depth s (view v) × (length s ≤ l.frame) × (kept new ≡ []) × (has_failed new ≡ false)
IsOutcomeOf l s left (Ok None) new = (s ≡ []) × (kept new ≡ []) × (has_failed new ≡ false) × IsAtEnd left
IsOutcomeOf l s left (Err (stream.Refused kind)) new = RefusesWithin l s (Error kind) × IsWaiting l.frame s × (has_failed new ≡ true)
IsOutcomeOf l s left (Err stream.Truncated) new = (0 < length s) × ((n : ℕ) × Within l s (more n)) × (has_failed new ≡ true) × IsAtEnd left
IsOutcomeOf l s left (Err (stream.Read kind)) new = (kept new ≡ s) × (has_failed new ≡ false)
IsOutcomeOf l s left (Err stream.OutOfMemory) new = (kept new ≡ s) × (has_failed new ≡ false)
IsOutcomeOf l s left (Err stream.Failed) new = ⊥

-- the outcome of only what was retained, whatever the reader has left
abbrev pub IsOutcomeOfKept : Values → NextResult → Values → Type 0
IsOutcomeOfKept old result new = (left : Option (List ℕ)) → IsOutcomeOf (limits_of old) (kept old) left result new

-- the outcome of only what was retained, if the reader is at its end
abbrev pub IsOutcomeAtEnd : Values → NextResult → Values → Type 0
IsOutcomeAtEnd old result new = (left : Option (List ℕ)) → IsAtEnd left → IsOutcomeOf (limits_of old) (kept old) left result new

-- some bytes came from the reader, and the result is the outcome of what was retained and of these
pub record ReadsOutcome {R : Type 0} (source : Ghosts R) (old : Values) (from : R) (result : NextResult) (new : Values) (to : R) : Type 0 where
  pub came : List ℕ
  pub consumed : Consumes (source.remaining from) (source.remaining to) came
  pub outcome : IsOutcomeOf (limits_of old) (kept old ++ came) (source.remaining to) result new

-- the result is that an earlier call failed for good
abbrev pub IsFailed : NextResult → Type 0
IsFailed (Err stream.Failed) = Unit {0}
IsFailed _ = ⊥

-- A call for the next value may return this, if the reader reports its bytes, s is what was
-- retained and then all that the reader held, and `left` is what it has left.
-- Reading s within the limits results in this, however the reader cuts its bytes.
abbrev pub IsOutcomeOfAll : Limits → List ℕ → Option (List ℕ) → NextResult → Type 0
IsOutcomeOfAll l s left (Ok (Some v)) = (rest : List ℕ) × Within l s (found (view v) rest) × (left ≡ Some rest)
IsOutcomeOfAll l s left (Ok None) = (s ≡ []) × (left ≡ Some [])
IsOutcomeOfAll l s left (Err (stream.Refused kind)) = RefusesWithin l s (Error kind)
IsOutcomeOfAll l s left (Err stream.Truncated) = (0 < length s) × ((n : ℕ) × Within l s (more n)) × (left ≡ Some [])
IsOutcomeOfAll l s left (Err (stream.Read kind)) = Unit {0}
IsOutcomeOfAll l s left (Err stream.OutOfMemory) = Unit {0}
IsOutcomeOfAll l s left (Err stream.Failed) = ⊥

-- a call for the next value: from the state `old` and the reader `from` to `new` and `to`
pub record ReadsNext {R : Type 0} (source : Ghosts R) (old : Values) (from : R) (result : NextResult) (new : Values) (to : R) : Type 0 where
  -- the result, by what came
  pub outcome : UnlessFailed old (ReadsOutcome source old from result new to)
  -- the result, by all that the reader held, if it reports its bytes
  pub outcome_of_all : UnlessFailed old (IfSome (source.remaining from)
      (λ held. IsOutcomeOfAll (limits_of old) (kept old ++ held) (source.remaining to) result))
  -- the reader's errors by their kinds
  pub kind : KeepsKind source.goes source.fails from result to
  -- after an error for good nothing is read or changed
  pub failed : has_failed old ≡ true → IsFailed result × (new ≡ old) × (to ≡ from)
  pub limits : limits_of new ≡ limits_of old
  -- what is retained: at most `frame` bytes, of which each shorter prefix asks for more
  pub bounded : length (kept new) ≤ (limits_of new).frame
  pub waiting : IsWaiting (limits_of new).frame (kept new)
