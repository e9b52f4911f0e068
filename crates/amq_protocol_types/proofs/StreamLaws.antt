-- For the law `loop_over_values`: what a call for the next value adds to what a loop has read.
use Rattle.std.proofs.Common.{◌≡◌, ◌≤◌, ℕ, false, List, [], ◌∷◌, ◌++◌, length, Option, Some, None, Ok, Err, refl, sym, ap, ◌∙◌, subst, arith, append_assoc}
use Rattle.std.specs.Option.{IfSome}
use Rattle.std.specs.Io.KnownBytes.{Consumes}
use Rattle.amqp_value_core.specs.declared.value.AMQPValue.{AMQPValue}
use Rattle.amqp_value_core.specs.Values.{Tree}
use Rattle.amqp_value_core.specs.View.{view}
use Rattle.amqp_value_core.specs.Nesting.{WireWithin}
use Rattle.amqp_value_core.specs.Outcomes.{found}
use Rattle.amqp_value_core.proofs.GrammarLaws.{wire_of, prefix_within, wire_found_within}
use Rattle.amq_protocol_types.specs.declared.parsing.within.Limits.{Limits}
use Rattle.amq_protocol_types.specs.declared.stream.error.StreamError.{StreamError}
use Rattle.amq_protocol_types.specs.declared.stream.error.StreamError.TheVariants as stream
use Rattle.amq_protocol_types.specs.declared.stream.source.Source.{Ghosts}
use Rattle.amq_protocol_types.specs.declared.stream.values.Values.{Values}
use Rattle.amq_protocol_types.specs.parsing.Headers.{extent}
use Rattle.amq_protocol_types.specs.parsing.Limits.{Within}
use Rattle.amq_protocol_types.specs.stream.Readers.{kept, has_failed, limits_of, NextResult, IsOutcomeOfAll, ReadsNext}
use Rattle.amq_protocol_types.specs.stream.ReadSoFar.{BeginsWithValues, HasRead, AreAllValues, EndsAfterValues}
use Rattle.amq_protocol_types.specs.stream.Sources.{IsPassing}
use Rattle.amq_protocol_types.proofs.LimitLaws.{wire_extent}

-- ---- what is at the start

-- what is found begins with an encoding
pub found_begins : (l : Limits) (s rest : List ℕ) (v : Tree) → Within l s (found v rest) → BeginsWithValues l s (v ∷ []) rest
found_begins l s rest v (few, x) =
    let f = prefix_within l.depth s rest v x in
    let small : extent s ≡ length f.0 = ap extent f.2 ∙ wire_extent f.0 rest v (wire_of l.depth f.0 v f.1) in
    (f.0, rest, f.2, f.1, omega (arith, few, small), refl)

-- and the other way round
pub begins_found : (l : Limits) (s w rest : List ℕ) (v : Tree) → s ≡ w ++ rest → WireWithin l.depth w v → length w ≤ l.frame → Within l s (found v rest)
begins_found l s w rest v e p few =
    subst (λ (t : List ℕ). Within l t (found v rest)) (sym e) (omega (arith, few, wire_extent w rest v (wire_of l.depth w v p)), wire_found_within l.depth w rest v p)

-- one value more
pub begins_after : (l : Limits) (s a b : List ℕ) (us : List Tree) (v : Tree) → BeginsWithValues l s us a → BeginsWithValues l a (v ∷ []) b → BeginsWithValues l s (us ++ v ∷ []) b
begins_after l s a b [] v p q = subst (λ (t : List ℕ). BeginsWithValues l t (v ∷ []) b) (sym p) q
begins_after l s a b (u ∷ us) v (w, rest, is, p, few, others) q = (w, rest, is, p, few, begins_after l rest a b us v others q)

-- ---- what a loop has read

-- the bytes `first` are encodings of vs, then k, and then what the reader has left
abbrev Split : Limits → Option (List ℕ) → List Tree → List ℕ → Option (List ℕ) → Type 0
Split l first vs k now = IfSome first (λ s. (left : List ℕ) × (now ≡ Some left) × BeginsWithValues l s vs (k ++ left))

nothing_read : (l : Limits) (k : List ℕ) (first : Option (List ℕ)) → k ≡ [] → Split l first [] k first
nothing_read l k None none = tt
nothing_read l k (Some s) none = (s, refl, ap (λ (t : List ℕ). t ++ s) (sym none))

-- so all that was held is what the result is the outcome of
rest_held : (l m : Limits) (first now to : Option (List ℕ)) (k : List ℕ) (vs : List Tree) (r : NextResult) → m ≡ l → Split l first vs k now → IfSome now (λ z. IsOutcomeOfAll m (k ++ z) to r)
    → IfSome first (λ s. (left : List ℕ) × BeginsWithValues l s vs left × IsOutcomeOfAll l left to r)
rest_held l m None now to k vs r same p o = tt
rest_held l m (Some s) None to k vs r same (left, is, begins) o = absurd cc
rest_held l m (Some s) (Some z) to k vs r same (left, is, begins) o =
    let is_left : z ≡ left = cc in
    (k ++ z, subst (λ (t : List ℕ). BeginsWithValues l s vs (k ++ t)) (sym is_left) begins, subst (λ (n : Limits). IsOutcomeOfAll n (k ++ z) to r) same o)

-- a value came, and nothing is retained
value_read : (l : Limits) (first to : Option (List ℕ)) (next : List ℕ) (vs : List Tree) (v : AMQPValue) → next ≡ []
    → IfSome first (λ s. (left : List ℕ) × BeginsWithValues l s vs left × IsOutcomeOfAll l left to (Ok (Some v))) → Split l first (vs ++ view v ∷ []) next to
value_read l None to next vs v none p = tt
value_read l (Some s) to next vs v none (left, begins, (rest, x, is)) =
    (rest, is, subst (λ (t : List ℕ). BeginsWithValues l s (vs ++ view v ∷ []) (t ++ rest)) (sym none) (begins_after l s left rest vs (view v) begins (found_begins l left rest (view v) x)))

-- bytes came, and are retained
retained : (l : Limits) (first now to : Option (List ℕ)) (k more next : List ℕ) (vs : List Tree) → next ≡ k ++ more → Consumes now to more → Split l first vs k now → Split l first vs next to
retained l None now to k more next vs e came p = tt
retained l (Some s) None to k more next vs e came (left, is, begins) = absurd cc
retained l (Some s) (Some z) None k more next vs e came p = absurd came
retained l (Some s) (Some z) (Some y) k more next vs e came (left, is, begins) =
    let is_left : left ≡ z = cc in
    (y, refl, subst (BeginsWithValues l s vs) (ap (λ (t : List ℕ). k ++ t) (is_left ∙ came) ∙ sym (append_assoc k more y) ∙ ap (λ (t : List ℕ). t ++ y) (sym e)) begins)

-- the end came
ended : (l : Limits) (first to : Option (List ℕ)) (vs : List Tree) → IfSome first (λ s. (left : List ℕ) × BeginsWithValues l s vs left × IsOutcomeOfAll l left to (Ok None)) → AreAllValues l first vs
ended l None to vs p = tt
ended l (Some s) to vs (left, begins, (none, is)) = subst (BeginsWithValues l s vs) none begins

-- an error came
stopped : (l : Limits) (first to : Option (List ℕ)) (vs : List Tree) (e : StreamError) → IfSome first (λ s. (left : List ℕ) × BeginsWithValues l s vs left × IsOutcomeOfAll l left to (Err e)) → EndsAfterValues l first vs e
stopped l None to vs e p = tt
stopped l (Some s) to vs e (left, begins, o) = (left, to, begins, o)

-- ---- the clauses of the law

pub reads_nothing : {R : Type 0} (source : Ghosts R) (l : Limits) (values : Values) (device from : R) → from ≡ device → limits_of values ≡ l → kept values ≡ [] → has_failed values ≡ false
    → HasRead l (source.remaining device) [] values (source.remaining from)
reads_nothing source l values device from same is none not_failed =
    record { limits = is; not_failed = not_failed; read = subst (λ d. Split l (source.remaining d) [] (kept values) (source.remaining from)) same (nothing_read l (kept values) (source.remaining from) none) }

module _ {R : Type 0} (source : Ghosts R) (l : Limits) (first : Option (List ℕ)) (vs : List Tree) where
  -- what the reader held is what the result is the outcome of
  rest_of : (old new : Values) (from to : R) (r : NextResult) → HasRead l first vs old (source.remaining from) → ReadsNext source old from r new to
      → IfSome first (λ s. (left : List ℕ) × BeginsWithValues l s vs left × IsOutcomeOfAll l left (source.remaining to) r)
  rest_of old new from to r p next = rest_held l (limits_of old) first (source.remaining from) (source.remaining to) (kept old) vs r p.limits p.read (next.outcome_of_all p.not_failed)

  pub reads_value : (v : AMQPValue) (old new : Values) (from to : R) → HasRead l first vs old (source.remaining from) → ReadsNext source old from (Ok (Some v)) new to
      → HasRead l first (vs ++ view v ∷ []) new (source.remaining to)
  reads_value v old new from to p next =
      let o = (next.outcome p.not_failed).outcome in
      record { limits = next.limits ∙ p.limits; not_failed = o.3; read = value_read l first (source.remaining to) (kept new) vs v o.2 (rest_of old new from to (Ok (Some v)) p next) }

  pub reads_again : (e : StreamError) (old new : Values) (from to : R) → HasRead l first vs old (source.remaining from) → ReadsNext source old from (Err e) new to → IsPassing e
      → HasRead l first vs new (source.remaining to)
  reads_again e old new from to p next passing = by e next passing
    where
      by : (e : StreamError) → ReadsNext source old from (Err e) new to → IsPassing e → HasRead l first vs new (source.remaining to)
      by (stream.Read kind) next passing =
          let o = next.outcome p.not_failed in
          record { limits = next.limits ∙ p.limits; not_failed = o.outcome.1; read = retained l first (source.remaining from) (source.remaining to) (kept old) o.came (kept new) vs o.outcome.0 o.consumed p.read }
      by stream.OutOfMemory next passing =
          let o = next.outcome p.not_failed in
          record { limits = next.limits ∙ p.limits; not_failed = o.outcome.1; read = retained l first (source.remaining from) (source.remaining to) (kept old) o.came (kept new) vs o.outcome.0 o.consumed p.read }
      by (stream.Refused kind) next passing = absurd passing
      by stream.Truncated next passing = absurd passing
      by stream.Failed next passing = absurd passing

  pub reads_end : (old new : Values) (from to : R) → HasRead l first vs old (source.remaining from) → ReadsNext source old from (Ok None) new to → AreAllValues l first vs
  reads_end old new from to p next = ended l first (source.remaining to) vs (rest_of old new from to (Ok None) p next)

  pub reads_error : (e : StreamError) (old new : Values) (from to : R) → HasRead l first vs old (source.remaining from) → ReadsNext source old from (Err e) new to
      → EndsAfterValues l first vs e
  reads_error e old new from to p next = stopped l first (source.remaining to) vs e (rest_of old new from to (Err e) p next)
