-- Of the loop in `copy_by_chunks`: the bytes copied, and then those left, are the input's.
use Rattle.std.proofs.Common.{◌≡◌, ◌++◌, length}
use Rattle.amq_protocol_types.proofs.parsing.bytes.copy_by_chunks.Given as goal

-- what was copied and what is left are the input's bytes
abbrev pub invariant-chunks : goal.invariant-chunks
invariant-chunks g l = l.bytes.items ++ g.I.ParsableInput.bytes l.rest ≡ g.I.ParsableInput.bytes l.fn.input

abbrev pub decreases-chunks : goal.decreases-chunks
decreases-chunks g l = length (g.I.ParsableInput.bytes l.rest)
