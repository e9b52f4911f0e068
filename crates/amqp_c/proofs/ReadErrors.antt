-- Lemmas on `read_error`: what is reported of the first problem in a value, by the value's header.
use Rattle.std.proofs.Common.{◌≡◌, ◌<◌, ℕ, Bool, true, false, Option, Some, None, option_map, List, refl, sym, ap, ◌∙◌, subst, if◌then◌else◌}
use Rattle.std.proofs.lemmas.Bool.{lt-ltb}
use Rattle.std.proofs.lemmas.Option.{same_Some}
use Rattle.std.specs.Prelude.{IsNone}
use Rattle.amqp_value_core.specs.declared.types.amqp_type.AMQPType.{AMQPType}
use Rattle.amqp_value_core.specs.declared.types.amqp_type.AMQPType.TheVariants as amqp
use Rattle.amqp_value_core.specs.Bytes.{IsBytes}
use Rattle.amqp_value_core.specs.Outcomes.{unknown, no_tag, Outcome}
use Rattle.amq_protocol_types.specs.declared.parsing.header.Header.{Header}
use Rattle.amq_protocol_types.specs.declared.parsing.header.Header.TheVariants as header
use Rattle.amq_protocol_types.specs.declared.parsing.within.Limits.{Limits}
use Rattle.amq_protocol_types.specs.parsing.Headers.{extent, wanted, wanted_at}
use Rattle.amq_protocol_types.specs.parsing.Limits.{IsHeader}
use Rattle.amq_protocol_types.specs.parsing.Untagged.{tagged}
use Rattle.amq_protocol_types.proofs.ParsingLaws.{whole_wants_none}
use Rattle.amqp_in_place.specs.declared.problems.Problem.{Problem}
use Rattle.amqp_in_place.specs.declared.problems.ProblemKind.TheVariants as kind
use Rattle.amqp_in_place.specs.declared.problems.Rules.{Rules}
use Rattle.amqp_in_place.specs.declared.problems.Rules.TheVariants.{Reading}
use Rattle.amqp_in_place.specs.ProblemResults.{FindsValue}
use Rattle.amqp_in_place.proofs.ProblemReadings.{reads_if_none, table_read_if_none}
use Rattle.amqp_in_place.specs.Problems.{here, without_tag, problem_of, problem_in_table_of}
use Rattle.amqp_c.specs.declared.input.Input.{Input}
use Rattle.amqp_c.specs.Inputs.{limits, is_untagged, encoding, error_of, header_lack, first_problem, read_error}

-- no byte is asked for after what is no type tag
unknown_wants : (s : List ℕ) → Outcome s unknown → wanted s ≡ 0
unknown_wants _ (no_tag c b k) = ap (λ (o : Option AMQPType). wanted_at o b) k

-- a header lacks what is asked for, but if the value is too large
lacks_wanted : (frame : ℕ) (s : List ℕ) (p : Problem) (h : Header) → IsHeader frame s h → (frame < extent s → error_of p 0 ≡ error_of p (wanted s))
    → error_of p (header_lack h) ≡ error_of p (wanted s)
lacks_wanted frame s p (header.Lacks m) is large = ap (error_of p) is.2
lacks_wanted frame s p header.Whole is large = ap (error_of p) (sym (whole_wants_none s is.1))
lacks_wanted frame s p header.Unknown is large = ap (error_of p) (sym (unknown_wants s is.0))
lacks_wanted frame s p header.TooLarge is large = large is

-- which is the problem then
large_first : (rules : Rules) (l : Limits) (s : List ℕ) → l.frame < extent s → problem_of rules l s ≡ Some (here kind.TooLarge)
large_first rules l s exceeds = rw (lt-ltb l.frame (extent s) exceeds) refl

-- so what is reported is right
error_right : (rules : Rules) (l : Limits) (s : List ℕ) (p : Problem) (h : Header) → problem_of rules l s ≡ Some p → IsHeader l.frame s h → error_of p (header_lack h) ≡ error_of p (wanted s)
error_right rules l s p h first is =
    lacks_wanted l.frame s p h is
    (λ exceeds. subst (λ (q : Problem). error_of q 0 ≡ error_of q (wanted s))
    (same_Some (here kind.TooLarge) p (sym (large_first rules l s exceeds) ∙ first)) refl)

table_error_right : (rules : Rules) (l : Limits) (s : List ℕ) (p : Problem) (h : Header) → problem_in_table_of rules l s ≡ Some p → IsHeader l.frame (tagged amqp.FieldTable s) h
    → error_of p (header_lack h) ≡ error_of p (wanted (tagged amqp.FieldTable s))
table_error_right rules l s p h first is =
    let t = tagged amqp.FieldTable s in
    lacks_wanted l.frame t p h is
    (λ exceeds. subst (λ (q : Problem). error_of q 0 ≡ error_of q (wanted t))
    (same_Some (without_tag (here kind.TooLarge)) p (sym (ap (option_map without_tag) (large_first rules l t exceeds)) ∙ first)) refl)

pub reported : (rules : Rules) (input : Input) (p : Problem) (h : Header) → Some p ≡ first_problem rules input → IsHeader (limits input).frame (encoding input) h → Some (error_of p (header_lack h)) ≡ read_error rules input
reported rules input p h is header =
    (by (is_untagged input) (sym is) header) ∙ ap (option_map (λ (q : Problem). error_of q (wanted (encoding input)))) is
  where
    by : (untagged : Bool) → (if untagged then problem_in_table_of rules (limits input) input.bytes.now else problem_of rules (limits input) input.bytes.now) ≡ Some p
        → IsHeader (limits input).frame (if untagged then tagged amqp.FieldTable input.bytes.now else input.bytes.now) h
        → Some (error_of p (header_lack h)) ≡ Some (error_of p (wanted (if untagged then tagged amqp.FieldTable input.bytes.now else input.bytes.now)))
    by true is x = ap Some (table_error_right rules (limits input) input.bytes.now p h is x)
    by false is x = ap Some (error_right rules (limits input) input.bytes.now p h is x)

-- no error is reported of what is read by the rules of reading
pub read_without_error : (input : Input) → IsBytes input.bytes.now → FindsValue (limits input) (encoding input) → read_error Reading input ≡ None
read_without_error input bytes value = ap (option_map (λ (q : Problem). error_of q (wanted (encoding input)))) (by (is_untagged input) value)
  where
    none : (x : Option Problem) → IsNone x → x ≡ None
    none None is = refl
    none (Some p) is = absurd cc

    by : (untagged : Bool) → FindsValue (limits input) (if untagged then tagged amqp.FieldTable input.bytes.now else input.bytes.now)
        → (if untagged then problem_in_table_of Reading (limits input) input.bytes.now else problem_of Reading (limits input) input.bytes.now) ≡ None
    by true x =
        let first = problem_in_table_of Reading (limits input) input.bytes.now in
        none first ((table_read_if_none Reading (limits input) input.bytes.now bytes refl first refl).1 x)
    by false x =
        let first = problem_of Reading (limits input) input.bytes.now in
        none first ((reads_if_none Reading (limits input) input.bytes.now bytes refl first refl).1 x)

-- what holds of limits and bytes that are the input's, with the type tag if it is untagged, holds of the input
pub of_parts : (P : Limits → List ℕ → List ℕ → Type 0) (input : Input) (l : Limits) (s : List ℕ) (b : Bool) → l ≡ limits input → s ≡ input.bytes.now → is_untagged input ≡ b
    → P l s (if b then tagged amqp.FieldTable s else s) → P (limits input) input.bytes.now (encoding input)
of_parts P input l s b same_limits same_bytes untagged x =
    let limited = subst (λ (q : Limits). P q s (if b then tagged amqp.FieldTable s else s)) same_limits x in
    let given = subst (λ (t : List ℕ). P (limits input) t (if b then tagged amqp.FieldTable t else t)) same_bytes limited in
    subst (λ (c : Bool). P (limits input) input.bytes.now (if c then tagged amqp.FieldTable input.bytes.now else input.bytes.now)) (sym untagged) given
