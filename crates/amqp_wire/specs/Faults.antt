-- `EndsLines` and `EndsRun`: how a run ends, and which `WireFault` an error of its source or its
-- sink is. `status_of`: the exit status of the program then.
use Rattle.std.specs.Prelude.{ℕ, ◌≡◌, ◌⊎◌, Result, Ok, Err}
use Rattle.std.specs.declared.io.ErrorKind.{ErrorKind}
use Rattle.std.specs.declared.io.ErrorKind.TheVariants as kind
use Rattle.amqp_wire.specs.declared.fault.WireFault.{WireFault}
use Rattle.amqp_wire.specs.declared.fault.WireFault.TheVariants.{OutOfMemory, Io}
use Rattle.amq_protocol_types.specs.stream.Sources.{SourceReaches, SourceStops}

-- out of memory if the kind is that, and a failure of input or output for any other kind
abbrev pub fault_of : ErrorKind → WireFault
fault_of kind.OutOfMemory = OutOfMemory
fault_of _ = Io

-- the exit status of the program if a run ended with the fault
abbrev pub status_of : WireFault → ℕ
status_of OutOfMemory = 1
status_of Io = 2

-- a call of a sink accepts some bytes or none
abbrev pub SinkAccepts : {W : Type 0} → (W → ℕ → W → Type 0) → W → W → Type 0
SinkAccepts takes from to = (n : ℕ) × takes from n to

-- a call of a source that is followed by another: it returned no error, or was interrupted
abbrev pub SourceContinues : {R : Type 0} → (R → R → Type 0) → (R → ErrorKind → R → Type 0) → R → R → Type 0
SourceContinues goes fails from to = goes from to ⊎ fails from kind.Interrupted to

-- the source returned an error, of a kind that is this fault, and none before
abbrev pub IsSourceFault : {R : Type 0} → (R → R → Type 0) → (R → ErrorKind → R → Type 0) → R → WireFault → R → Type 0
IsSourceFault goes fails from fault to = (kind : ErrorKind) × SourceStops goes fails from kind to × (fault ≡ fault_of kind)

-- the sink returned an error, of a kind that is this fault, or accepted no byte; and no error before
abbrev pub IsSinkFault : {W : Type 0} → (W → ℕ → W → Type 0) → (W → ErrorKind → W → Type 0) → W → WireFault → W → Type 0
IsSinkFault {W} takes fails from fault to = (last : W) × SourceReaches (SinkAccepts takes) from last
    × (((kind : ErrorKind) × fails last kind to × (fault ≡ fault_of kind)) ⊎ (takes last 0 to × (fault ≡ Io)))

-- the fault of what is read: memory ran out with no error of the source, or it is the source's
abbrev pub IsDeviceReadFault : {R : Type 0} → (R → R → Type 0) → (R → ErrorKind → R → Type 0) → R → WireFault → R → Type 0
IsDeviceReadFault goes fails from fault to = ((fault ≡ OutOfMemory) × SourceReaches goes from to) ⊎ IsSourceFault goes fails from fault to

-- the fault of results that are written: memory ran out with no error of the sink, or it is the sink's
abbrev pub IsResultFault : {W : Type 0} → (W → ℕ → W → Type 0) → (W → ErrorKind → W → Type 0) → W → WireFault → W → Type 0
IsResultFault takes fails from fault to = ((fault ≡ OutOfMemory) × SourceReaches (SinkAccepts takes) from to) ⊎ IsSinkFault takes fails from fault to

-- what is read ends with its fault, or with no error of the source if there is a result
abbrev pub EndsRead : {R T : Type 0} → (R → R → Type 0) → (R → ErrorKind → R → Type 0) → R → Result T WireFault → R → Type 0
EndsRead goes fails from (Ok x) to = SourceReaches goes from to
EndsRead goes fails from (Err fault) to = IsDeviceReadFault goes fails from fault to

-- what is written ends with the sink's fault, or all is accepted
abbrev pub EndsWrite : {W T : Type 0} → (W → ℕ → W → Type 0) → (W → ErrorKind → W → Type 0) → W → Result T WireFault → W → Type 0
EndsWrite takes fails from (Ok x) to = SourceReaches (SinkAccepts takes) from to
EndsWrite takes fails from (Err fault) to = IsSinkFault takes fails from fault to

-- results that are written end with their fault, or all is accepted
abbrev pub EndsResults : {W T : Type 0} → (W → ℕ → W → Type 0) → (W → ErrorKind → W → Type 0) → W → Result T WireFault → W → Type 0
EndsResults takes fails from (Ok x) to = SourceReaches (SinkAccepts takes) from to
EndsResults takes fails from (Err fault) to = IsResultFault takes fails from fault to

-- a run ends as what is read does, or as what is written does
abbrev pub EndsRun : {R W T : Type 0} → (R → R → Type 0) → (R → ErrorKind → R → Type 0) → (W → ℕ → W → Type 0) → (W → ErrorKind → W → Type 0) → R → W → Result T WireFault → R → W → Type 0
EndsRun goes fails takes rejects from start (Ok x) to end = SourceReaches goes from to × SourceReaches (SinkAccepts takes) start end
EndsRun goes fails takes rejects from start (Err fault) to end =
    (IsDeviceReadFault goes fails from fault to × SourceReaches (SinkAccepts takes) start end)
    ⊎ (SourceReaches goes from to × IsSinkFault takes rejects start fault end)

-- a run of lines ends with the source's fault and nothing written, or, once all is read, as results
-- do; a call of the source that is interrupted is followed by another
abbrev pub EndsLines : {R W T : Type 0} → (R → R → Type 0) → (R → ErrorKind → R → Type 0) → (W → ℕ → W → Type 0) → (W → ErrorKind → W → Type 0) → R → W → Result T WireFault → R → W → Type 0
EndsLines goes fails takes rejects from start (Ok x) to end = SourceReaches (SourceContinues goes fails) from to × SourceReaches (SinkAccepts takes) start end
EndsLines goes fails takes rejects from start (Err fault) to end =
    (IsDeviceReadFault (SourceContinues goes fails) fails from fault to × (end ≡ start))
    ⊎ (SourceReaches (SourceContinues goes fails) from to × IsResultFault takes rejects start fault end)
