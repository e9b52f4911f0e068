-- `SliceOutput::put`: bytes that fit were copied to the position, which moved after them.
use Rattle.std.proofs.Common.{refl, arith}
use Rattle.amq_protocol_types.proofs.Slices.{put_next}
use Rattle.amq_protocol_types.proofs.generation.slice.SliceOutputOutput.put.Goals as goal

pub returns : goal.returns
returns c = put_next _ _ _ _ _ _ c.self.view_is c.copy_from_slice.ensures.after refl (omega arith)
