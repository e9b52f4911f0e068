-- For `EndsRead`, `EndsResults` and `EndsRun`: a fault after further calls of a source or a sink is
-- a fault of the whole run.
use Rattle.std.proofs.Common.{◌≡◌, ℕ, Option, Result, Ok, Err, List, ◌++◌, inl, sym, subst, inr}
use Rattle.std.specs.Prelude.{OnOk}
use Rattle.std.specs.Io.KnownBytes.{Consumes}
use Rattle.std.proofs.KnownBytes.{Consumes-trans}
use Rattle.std.specs.declared.io.ErrorKind.{ErrorKind}
use Rattle.amq_protocol_types.specs.stream.Sources.{SourceReaches}
use Rattle.amq_protocol_types.specs.stream.Sources.SourceReaches.{there}
use Rattle.amqp_wire.specs.Faults.{SourceContinues, SinkAccepts, IsSourceFault, IsSinkFault, IsDeviceReadFault, EndsRead, EndsResults, EndsRun}
use Rattle.amq_protocol_types.proofs.SourceReads.{reaches_on}
use Rattle.amqp_wire.specs.declared.fault.WireFault.{WireFault}

-- the last call, if it returned no error
pub goes_on : {S T E : Type 0} (goes : S → S → Type 0) (fails : S → ErrorKind → S → Type 0) (a b c : S) (r : Result T E) → SourceReaches (SourceContinues goes fails) a b → OnOk r (goes b c) → OnOk r (SourceReaches (SourceContinues goes fails) a c)
goes_on goes fails a b c (Ok x) before went = there a b c before (inl went)
goes_on goes fails a b c (Err e) before went = tt

-- what came, and then more
pub consumed_more : (a b c : Option (List ℕ)) (old more new : List ℕ) → Consumes a b old → Consumes b c more → new ≡ old ++ more → Consumes a c new
consumed_more a b c old more new p q is = subst (Consumes a c) (sym is) (Consumes-trans a b c old more p q)

-- a fault after further calls is one after all calls
pub source_later : {R : Type 0} (goes : R → R → Type 0) (fails : R → ErrorKind → R → Type 0) (a b c : R) (f : WireFault) → SourceReaches goes a b → IsSourceFault goes fails b f c → IsSourceFault goes fails a f c
source_later goes fails a b c f before (kind, (last, more, failed), is) = (kind, (last, reaches_on goes a b last before more, failed), is)

pub sink_later : {W : Type 0} (takes : W → ℕ → W → Type 0) (fails : W → ErrorKind → W → Type 0) (a b c : W) (f : WireFault) → SourceReaches (SinkAccepts takes) a b → IsSinkFault takes fails b f c → IsSinkFault takes fails a f c
sink_later takes fails a b c f before (last, more, why) = (last, reaches_on (SinkAccepts takes) a b last before more, why)

pub read_later : {R : Type 0} (goes : R → R → Type 0) (fails : R → ErrorKind → R → Type 0) (a b c : R) (f : WireFault) → SourceReaches goes a b → IsDeviceReadFault goes fails b f c → IsDeviceReadFault goes fails a f c
read_later goes fails a b c f before (inl (out, more)) = inl (out, reaches_on goes a b c before more)
read_later goes fails a b c f before (inr fault) = inr (source_later goes fails a b c f before fault)

-- what is read ends with the fault of its last part
pub ends_part : {R T : Type 0} (goes : R → R → Type 0) (fails : R → ErrorKind → R → Type 0) (a b c : R) (e : WireFault) (r : Result T WireFault) → SourceReaches goes a b → IsDeviceReadFault goes fails b e c → r ≡ Err e → EndsRead goes fails a r c
ends_part {R} {T} goes fails a b c e r before why is =
    subst (λ (q : Result T WireFault). EndsRead goes fails a q c) (sym is) (read_later goes fails a b c e before why)

-- a run whose source fails, or that runs out of memory
pub ends_read : {R W T : Type 0} (goes : R → R → Type 0) (fails : R → ErrorKind → R → Type 0) (takes : W → ℕ → W → Type 0) (rejects : W → ErrorKind → W → Type 0) (a b c : R) (s t : W) (e : WireFault) (r : Result T WireFault)
    → SourceReaches goes a b → IsDeviceReadFault goes fails b e c → SourceReaches (SinkAccepts takes) s t → r ≡ Err e → EndsRun goes fails takes rejects a s r c t
ends_read {R} {W} {T} goes fails takes rejects a b c s t e r before why written is =
    subst (λ (q : Result T WireFault). EndsRun goes fails takes rejects a s q c t) (sym is) (inl (read_later goes fails a b c e before why, written))

-- a run whose sink fails
pub ends_write : {R W T : Type 0} (goes : R → R → Type 0) (fails : R → ErrorKind → R → Type 0) (takes : W → ℕ → W → Type 0) (rejects : W → ErrorKind → W → Type 0) (a b : R) (s t u : W) (e : WireFault) (r : Result T WireFault)
    → SourceReaches goes a b → SourceReaches (SinkAccepts takes) s t → IsSinkFault takes rejects t e u → r ≡ Err e → EndsRun goes fails takes rejects a s r b u
ends_write {R} {W} {T} goes fails takes rejects a b s t u e r before written fault is =
    subst (λ (q : Result T WireFault). EndsRun goes fails takes rejects a s q b u) (sym is) (inr (before, sink_later takes rejects s t u e written fault))

-- results of lines whose sink fails
pub results_end : {W T : Type 0} (takes : W → ℕ → W → Type 0) (rejects : W → ErrorKind → W → Type 0) (s t u : W) (e : WireFault) (r : Result T WireFault)
    → SourceReaches (SinkAccepts takes) s t → IsSinkFault takes rejects t e u → r ≡ Err e → EndsResults takes rejects s r u
results_end {W} {T} takes rejects s t u e r written fault is =
    subst (λ (q : Result T WireFault). EndsResults takes rejects s q u) (sym is) (inr (sink_later takes rejects s t u e written fault))
