-- `outcome_of_all`, for `Values::next_from`: a result that is right of the bytes that came is right
-- of all bytes that the reader held.
use Rattle.std.proofs.Common.{◌≡◌, ◌<◌, ◌≤◌, ℕ, List, [], ◌++◌, length, Option, Some, None, Ok, Err, refl, sym, ap, ◌∙◌, subst, arith, append-nil, append_assoc}
use Rattle.std.specs.Option.{IfSome}
use Rattle.std.specs.Io.KnownBytes.{Consumes}
use Rattle.amqp_value_core.specs.View.{view}
use Rattle.amqp_value_core.specs.Nesting.{WireWithin}
use Rattle.amqp_value_core.specs.Values.{Tree}
use Rattle.amqp_value_core.specs.Outcomes.{found, more}
use Rattle.amqp_value_core.proofs.GrammarLaws.{wire_of, wire_found_within}
use Rattle.amq_protocol_types.specs.declared.stream.error.StreamError.TheVariants as stream
use Rattle.amq_protocol_types.specs.declared.stream.source.Source.{Ghosts}
use Rattle.amq_protocol_types.specs.declared.stream.values.Values.{Values}
use Rattle.amq_protocol_types.specs.declared.parsing.within.Limits.{Limits}
use Rattle.amq_protocol_types.specs.parsing.Limits.{Within}
use Rattle.amq_protocol_types.specs.stream.Readers.{NextResult, IsOutcomeOf, IsOutcomeOfAll, ReadsOutcome, kept, limits_of}
use Rattle.amq_protocol_types.proofs.LimitLaws.{wire_extent, refused_append}

-- a value whose encoding came is read of that and more
found_of_all : (l : Limits) (s t : List ℕ) (v : Tree) → WireWithin l.depth s v → length s ≤ l.frame → Within l (s ++ t) (found v t)
found_of_all l s t v p few = (omega (arith, few, wire_extent s t v (wire_of l.depth s v p)), wire_found_within l.depth s t v p)

-- the outcome of s is that of s and what was left
with_rest : (l : Limits) (s y : List ℕ) (r : NextResult) (new : Values) → IsOutcomeOf l s (Some y) r new → IsOutcomeOfAll l (s ++ y) (Some y) r
with_rest l s y r new o = by r o
  where
    ends : y ≡ [] → s ++ y ≡ s
    ends none = ap (λ (t : List ℕ). s ++ t) none ∙ append-nil s

    by : (r : NextResult) → IsOutcomeOf l s (Some y) r new → IsOutcomeOfAll l (s ++ y) (Some y) r
    by (Ok (Some v)) o = (y, found_of_all l s y (view v) o.0 o.1, refl)
    by (Ok None) o = (ends o.3 ∙ o.0, ap Some o.3)
    by (Err (stream.Refused e)) o = refused_append l s y e o.0
    by (Err stream.Truncated) o = subst (λ (t : List ℕ). (0 < length t) × ((n : ℕ) × Within l t (more n)) × (Some y ≡ Some [])) (sym (ends o.3)) (o.0, o.1, ap Some o.3)
    by (Err (stream.Read e)) o = tt
    by (Err stream.OutOfMemory) o = tt
    by (Err stream.Failed) o = o

-- so the outcome of what came is that of all that the reader held, if it reports that
of_held : (l : Limits) (k x : List ℕ) (r : NextResult) (new : Values) (held left : Option (List ℕ)) → Consumes held left x → IsOutcomeOf l (k ++ x) left r new
    → IfSome held (λ z. IsOutcomeOfAll l (k ++ z) left r)
of_held l k x r new None left came o = tt
of_held l k x r new (Some z) None came o = absurd came
of_held l k x r new (Some z) (Some y) came o =
    subst (λ (t : List ℕ). IsOutcomeOfAll l t (Some y) r) (append_assoc k x y ∙ ap (λ (t : List ℕ). k ++ t) (sym came)) (with_rest l (k ++ x) y r new o)

pub outcome_of_all : {R : Type 0} (source : Ghosts R) (old : Values) (from : R) (r : NextResult) (new : Values) (to : R) → ReadsOutcome source old from r new to
    → IfSome (source.remaining from) (λ held. IsOutcomeOfAll (limits_of old) (kept old ++ held) (source.remaining to) r)
outcome_of_all source old from r new to reads =
    of_held (limits_of old) (kept old) reads.came r new (source.remaining from) (source.remaining to) reads.consumed reads.outcome
