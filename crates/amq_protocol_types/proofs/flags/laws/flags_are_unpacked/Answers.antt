-- `flags_are_unpacked`: `unpack` gives each name its bit of `pack`, which is the flag's boolean.
use Rattle.amq_protocol_types.proofs.FlagBits.{unpacked}
use Rattle.amq_protocol_types.proofs.flags.laws.flags_are_unpacked.Goals as goal

pub returns : goal.returns
returns c = unpacked
