-- What holds of an error (`Refusal`), by each outcome of reading (`by_outcome`); and bytes that are
-- read aren't rejected (`not_read`).
use Rattle.std.proofs.Common.{◌≡◌, ℕ, List, arith}
use Rattle.amqp_value_core.specs.Values.{Tree}
use Rattle.amqp_value_core.specs.Outcomes.{Reading, found, more, unknown, malformed}
use Rattle.amqp_value_core.proofs.GrammarLaws.{one_outcome_within}
use Rattle.amq_protocol_types.specs.declared.parsing.errors.Err.TheVariants.{Incomplete, Error, Failure}
use Rattle.amq_protocol_types.specs.declared.parsing.errors.Needed.TheVariants.{Unknown, Size}
use Rattle.amq_protocol_types.specs.declared.parsing.errors.ErrorKind.{ErrorKind}
use Rattle.amq_protocol_types.specs.declared.parsing.errors.ErrorKind.TheVariants.{MapOpt, MapRes, Eof, OutOfMemory, TooLarge}
use Rattle.amq_protocol_types.specs.declared.parsing.within.Limits.{Limits}
use Rattle.amq_protocol_types.specs.parsing.Limits.{Within, RefusesWithin}
use Rattle.amq_protocol_types.specs.parsing.ParseResults.{IsRefusal}
use Rattle.amq_protocol_types.specs.parsing.Refusals.{Refusal}
use Rattle.amqp_in_place.specs.InPlaceResults.{NeedsNoMemory}

-- P holds of an error if it does whatever reading results in, and if an allocation failed
pub by_outcome : (P : Refusal → Type 0) (Is : Reading → Type 0) (heavy : Type 0) → ((n : ℕ) → Is (more n) → P (Incomplete (Size n))) → (Is unknown → P (Error MapOpt))
    → (Is malformed → P (Error Eof)) → ((k : ErrorKind) → heavy → P (Failure k)) → (e : Refusal) → IsRefusal Is heavy e → P e
by_outcome P Is heavy cut no_type bad failed (Incomplete Unknown) x = absurd x
by_outcome P Is heavy cut no_type bad failed (Incomplete (Size n)) x = cut n x
by_outcome P Is heavy cut no_type bad failed (Error MapOpt) x = no_type x
by_outcome P Is heavy cut no_type bad failed (Error Eof) x = bad x
by_outcome P Is heavy cut no_type bad failed (Error MapRes) x = absurd x
by_outcome P Is heavy cut no_type bad failed (Error OutOfMemory) x = absurd x
by_outcome P Is heavy cut no_type bad failed (Error TooLarge) x = absurd x
by_outcome P Is heavy cut no_type bad failed (Failure k) x = failed k x.1

-- bytes aren't both read as a value and rejected
pub not_read : (l : Limits) (s rest : List ℕ) (v : Tree) (e : Refusal) → Within l s (found v rest) → RefusesWithin l s e → NeedsNoMemory e → ⊥
not_read l s rest v (Incomplete Unknown) y x none = x
not_read l s rest v (Incomplete (Size n)) y x none = let same : more n ≡ found v rest = one_outcome_within l.depth s (more n) (found v rest) x.1 y.1 in cc same
not_read l s rest v (Error MapOpt) y x none = let same : unknown ≡ found v rest = one_outcome_within l.depth s unknown (found v rest) x.1 y.1 in cc same
not_read l s rest v (Error Eof) y x none = let same : malformed ≡ found v rest = one_outcome_within l.depth s malformed (found v rest) x.1 y.1 in cc same
not_read l s rest v (Error TooLarge) y x none = omega (arith, x, y.0)
not_read l s rest v (Error MapRes) y x none = x
not_read l s rest v (Error OutOfMemory) y x none = x
not_read l s rest v (Failure k) y x none = none
