-- Of the loop in `Values::read_value`: all that came is retained, and no read returned an error.
use Rattle.std.proofs.Common.{◌≡◌, ◌-◌, false, length}
use Rattle.amq_protocol_types.specs.stream.Readers.{kept, has_failed}
use Rattle.amq_protocol_types.specs.stream.Sources.{SourceReaches}
use Rattle.amq_protocol_types.proofs.SourceReads.{CameSince}
use Rattle.amq_protocol_types.proofs.stream.values.Values.read_value.Given as goal

-- what came is retained after what was retained, and no call of the reader returned an error
abbrev pub invariant-reads : goal.invariant-reads
invariant-reads g l =
    CameSince g.R.Source (kept l.initial.self) l.initial.reader (kept l.self) l.reader
    × (has_failed l.self ≡ false)
    × (l.self.limits ≡ l.initial.self.limits)
    × SourceReaches g.R.Source.goes l.initial.reader l.reader

abbrev pub decreases-reads : goal.decreases-reads
decreases-reads g l = l.self.limits.frame - length (kept l.self)
