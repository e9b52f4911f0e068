-- Lemmas for `Pending::fill_from` and `Values::read_value`: reads from a `Source`, and the bytes
-- that each puts after those before. Proofs of amqp_wire cite `reaches_on`.
use Rattle.std.proofs.Common.{◌≡◌, ◌+◌, ◌≤◌, ℕ, zero, suc, List, [], ◌∷◌, ◌++◌, length, take, drop, ap, ◌∙◌, arith, Result, Ok, Err, sym, subst, IfOk, append_assoc}
use Rattle.std.proofs.lemmas.List.{length-take-le}
use Rattle.std.specs.declared.io.ErrorKind.{ErrorKind}
use Rattle.std.specs.Result.{IfErr}
use Rattle.std.proofs.KnownBytes.{Consumes-trans}
use lib.Seq.{take-add}
use Rattle.amq_protocol_types.specs.declared.stream.error.StreamError.{StreamError}
use Rattle.amq_protocol_types.specs.declared.stream.error.StreamError.TheVariants as stream
use Rattle.amq_protocol_types.specs.stream.Sources.{SourceReaches, KeepsKind, IsNoRead, GivesBytes, GainsBytes}
use Rattle.amq_protocol_types.specs.stream.Sources.SourceReaches.{here, there}
use Rattle.amq_protocol_types.specs.declared.stream.source.Source.{Ghosts}
use Rattle.amq_protocol_types.specs.declared.stream.values.Values.{Values}
use Rattle.amq_protocol_types.specs.declared.parsing.within.Limits.{Limits}
use Rattle.amq_protocol_types.specs.stream.Readers.{NextResult, IsOutcomeOf, ReadsOutcome, kept, limits_of}
use Rattle.amq_protocol_types.specs.parsing.Headers.{extent, wanted, IsWaiting}
use Rattle.amq_protocol_types.proofs.MissingBytes.{waits_more}

-- if there are n bytes after the first k, these are as many
pub length_after : (k n : ℕ) (s : List ℕ) → k + n ≤ length s → length (take n (drop k s)) ≡ n
length_after zero n s h = length-take-le n s (omega (arith, h))
length_after (suc k) n [] h = omega (arith, h)
length_after (suc k) n (c ∷ s) h = length_after k n s (omega (arith, h))

-- what was retained is a prefix as before, if the buffer grew and a read left the prefix unchanged
pub still_kept : (k : ℕ) (first old made new : List ℕ) → take k old ≡ first → take k made ≡ take k old → take k new ≡ take k made → take k new ≡ first
still_kept k first old made new is same prefix = prefix ∙ same ∙ is

-- and with n bytes that were read, those follow it
pub read_on : (k n : ℕ) (first new : List ℕ) → take k new ≡ first → take (k + n) new ≡ first ++ take n (drop k new)
read_on k n first new is = take-add k n new ∙ ap (λ t. t ++ take n (drop k new)) is

-- calls, and then further ones
pub reaches_on : {S : Type 0} (goes : S → S → Type 0) (a b c : S) → SourceReaches goes a b → SourceReaches goes b c → SourceReaches goes a c
reaches_on goes a b _ r (here _) = r
reaches_on goes a b _ r (there _ t u s g) = there a t u (reaches_on goes a b t r s) g

-- a result that is no error of the source
pub kept_by : {S T : Type 0} (goes : S → S → Type 0) (fails : S → ErrorKind → S → Type 0) (a b : S) (r : Result T StreamError) → IsNoRead r → SourceReaches goes a b → KeepsKind goes fails a r b
kept_by goes fails a b (Ok x) own before = before
kept_by goes fails a b (Err (stream.Read kind)) own before = absurd own
kept_by goes fails a b (Err (stream.Refused e)) own before = before
kept_by goes fails a b (Err stream.Truncated) own before = before
kept_by goes fails a b (Err stream.OutOfMemory) own before = before
kept_by goes fails a b (Err stream.Failed) own before = before

-- an error that is handed on
pub kept_error : {S U : Type 0} (T : Type 0) (goes : S → S → Type 0) (fails : S → ErrorKind → S → Type 0) (a b c : S) (e : StreamError) (r : Result U StreamError) → SourceReaches goes a b → KeepsKind {T = T} goes fails b (Err e) c → r ≡ Err e → KeepsKind goes fails a r c
kept_error {S} {U} T goes fails a b c e r before k is = subst (λ (q : Result U StreamError). KeepsKind goes fails a q c) (sym is) (by e k)
  where
    by : (e : StreamError) → KeepsKind {T = T} goes fails b (Err e) c → KeepsKind {T = U} goes fails a (Err e) c
    by (stream.Read kind) (last, more, failed) = (last, reaches_on goes a b last before more, failed)
    by (stream.Refused e) k = reaches_on goes a b c before k
    by stream.Truncated k = reaches_on goes a b c before k
    by stream.OutOfMemory k = reaches_on goes a b c before k
    by stream.Failed k = reaches_on goes a b c before k

-- one read of at most as many bytes as are missing leaves all waiting
pub filled_waits : {R : Type 0} (source : Ghosts R) (from to : R) (frame most : ℕ) (s now : List ℕ) (r : Result ℕ StreamError) (E : StreamError → Type 0) (K : Type 0)
    → IsWaiting frame s → extent s ≤ frame → most ≡ wanted s
    → IfOk r (GainsBytes source most s from now to) → IfErr r (λ e. E e × (now ≡ s) × K) → IsWaiting frame now
filled_waits source from to frame most s now (Ok n) E K waits within is gains err =
    subst (IsWaiting frame) (sym gains.retained) (waits_more frame s gains.bytes waits within (omega (arith, gains.count, gains.bounded, is)))
filled_waits source from to frame most s now (Err e) E K waits within is ok (passes, same, keeps) = subst (IsWaiting frame) (sym same) waits

-- bytes came since `from`, and are retained after k
abbrev pub CameSince : {R : Type 0} → Ghosts R → List ℕ → R → List ℕ → R → Type 0
CameSince source k from s to = (came : List ℕ) × GivesBytes source from came to × (s ≡ k ++ came)

-- what came in one read joins what came before it
pub joined : {R : Type 0} (source : Ghosts R) (from mid to : R) (most n : ℕ) (k s now : List ℕ) → CameSince source k from s mid → GainsBytes source most s mid now to n → CameSince source k from now to
joined source from mid to most n k s now (x, came, is) gains = (
  x ++ gains.bytes,
  Consumes-trans (source.remaining from) (source.remaining mid) (source.remaining to) x gains.bytes came gains.given,
  gains.retained ∙ ap (λ (t : List ℕ). t ++ gains.bytes) is ∙ append_assoc k x gains.bytes,
)

-- the outcome of all that is retained is that of what was retained before and of what came since
pub reads_outcome : {R : Type 0} (source : Ghosts R) (old : Values) (from to : R) (l : Limits) (s : List ℕ) (r : NextResult) (new : Values)
    → l ≡ limits_of old → CameSince source (kept old) from s to → IsOutcomeOf l s (source.remaining to) r new → ReadsOutcome source old from r new to
reads_outcome source old from to l s r new same (came, given, all) outcome = record {
  came = came;
  consumed = given;
  outcome = subst (λ (n : Limits). IsOutcomeOf n (kept old ++ came) (source.remaining to) r new) same (subst (λ (t : List ℕ). IsOutcomeOf l t (source.remaining to) r new) all outcome);
}
