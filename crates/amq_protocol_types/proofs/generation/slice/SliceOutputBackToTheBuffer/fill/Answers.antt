-- `SliceOutput::fill` overwrites bytes before the position, and nothing else changes.
use Rattle.amq_protocol_types.proofs.Slices.{fill_before}
use Rattle.amq_protocol_types.proofs.generation.slice.SliceOutputBackToTheBuffer.fill.Goals as goal

pub returns : goal.returns
returns c = fill_before _ _ _ _ _ _ c.self.view_is c.copy_from_slice.ensures.after c.requires c.self.invariant
