-- What is printed of a parser's result is what is printed of `compute_outcome`, and within limits
-- of `read_within`.
use Rattle.std.proofs.Common.{◌≡◌, ◌<◌, ℕ, suc, Some, None, List, [], ◌∷◌, cond, slice_index, Fits, w8, inl, inr, ap, sym, ◌∙◌}
use Rattle.std.proofs.lemmas.Bool.{cases_lt, le-ltb, lt-ltb}
use Rattle.amqp_value_core.specs.Bytes.{IsBytes}
use Rattle.amqp_value_core.specs.Outcomes.{Reading, more, unknown, malformed, Outcome, Heavy}
use Rattle.amqp_value_core.specs.Decode.{compute_outcome, outcome_by, meaning}
use Rattle.amqp_value_core.proofs.GrammarLaws.{outcome_is, within_is}
use Rattle.amq_protocol_types.specs.declared.parsing.errors.Err.TheVariants.{Incomplete, Error, Failure}
use Rattle.amq_protocol_types.specs.declared.parsing.errors.Needed.TheVariants.{Unknown, Size}
use Rattle.amq_protocol_types.specs.declared.parsing.errors.ErrorKind.TheVariants.{MapOpt, MapRes, Eof, OutOfMemory, TooLarge}
use Rattle.amq_protocol_types.specs.declared.parsing.within.Limits.{Limits}
use Rattle.amq_protocol_types.specs.parsing.Refusals.{Refusal}
use Rattle.amq_protocol_types.specs.parsing.ParseResults.{IsRefusal}
use Rattle.amq_protocol_types.specs.parsing.Headers.{extent}
use Rattle.amq_protocol_types.specs.parsing.Limits.{Within, RefusesWithin}
use Rattle.amqp_wire.specs.Lines.{said, said_within, read_within, IsSaid}

-- what a slice of bytes shows are bytes
pub bytes_fit : (s : List ℕ) → ((i : ℕ) → Fits w8 (slice_index s i)) → IsBytes s
bytes_fit [] fit = tt
bytes_fit (c ∷ s) fit = ((fit 0).fits, bytes_fit s (λ i. fit (suc i)))

-- ---- any value

-- what is printed of an outcome of bytes is what is printed of the one that is computed
pub said_of_outcome : (s : List ℕ) (o : Reading) → IsBytes s → Outcome s o → said o ≡ said (compute_outcome s)
said_of_outcome s o fit here = ap said ((outcome_is s o fit).0 here)

-- and what is printed of an error
pub said_of_refusal : (s : List ℕ) (e : Refusal) (t : List ℕ) → IsBytes s → IsRefusal (Outcome s) (Heavy s) e → IsSaid e t → t ≡ said (compute_outcome s)
said_of_refusal s (Incomplete Unknown) t fit right is = absurd right
said_of_refusal s (Incomplete (Size n)) t fit right is = is ∙ said_of_outcome s (more n) fit right
said_of_refusal s (Error MapOpt) t fit right is = is ∙ said_of_outcome s unknown fit right
said_of_refusal s (Error Eof) t fit right is = is ∙ said_of_outcome s malformed fit right
said_of_refusal s (Error _) t fit right is = absurd right
said_of_refusal s (Failure kind) t fit right is = absurd is

-- ---- within limits

-- what reading results in, the function returns
pub read_is : (l : Limits) (s : List ℕ) (o : Reading) → IsBytes s → Within l s o → read_within l s ≡ Some o
read_is l s o bytes (few, x) =
    ap (λ b. cond b None (Some (outcome_by (meaning l.depth) s))) (le-ltb l.frame (extent s) few) ∙ ap Some (sym ((within_is l.depth s o bytes).0 x))

pub too_large : (l : Limits) (s : List ℕ) → l.frame < extent s → read_within l s ≡ None
too_large l s lt = ap (λ b. cond b None (Some (outcome_by (meaning l.depth) s))) (lt-ltb l.frame (extent s) lt)

pub said_of_within : (l : Limits) (s : List ℕ) (o : Reading) → IsBytes s → Within l s o → said o ≡ said_within (read_within l s)
said_of_within l s o fit here = ap said_within (sym (read_is l s o fit here))

pub said_of_limited : (l : Limits) (s : List ℕ) (e : Refusal) (t : List ℕ) → IsBytes s → RefusesWithin l s e → IsSaid e t → t ≡ said_within (read_within l s)
said_of_limited l s (Incomplete Unknown) t fit right is = absurd is
said_of_limited l s (Incomplete (Size n)) t fit right is = is ∙ said_of_within l s (more n) fit right
said_of_limited l s (Error MapOpt) t fit right is = is ∙ said_of_within l s unknown fit right
said_of_limited l s (Error Eof) t fit right is = is ∙ said_of_within l s malformed fit right
said_of_limited l s (Error TooLarge) t fit right is = is ∙ ap said_within (sym (too_large l s right))
said_of_limited l s (Error MapRes) t fit right is = absurd right
said_of_limited l s (Error OutOfMemory) t fit right is = absurd right
said_of_limited l s (Failure kind) t fit right is = absurd is

-- and the other way round
pub read_holds : (l : Limits) (s : List ℕ) (o : Reading) → IsBytes s → read_within l s ≡ Some o → Within l s o
read_holds l s o bytes e = elim (cases_lt l.frame (extent s)) [
  | inl large ↦
      let clash : None ≡ Some o = sym (too_large l s large) ∙ e in
      absurd cc
  | inr few ↦
      let is : Some (outcome_by (meaning l.depth) s) ≡ Some o = sym (ap (λ b. cond b None (Some (outcome_by (meaning l.depth) s))) (le-ltb l.frame (extent s) few)) ∙ e in
      (few, (within_is l.depth s o bytes).1 cc)
]
