-- `SliceOutput::reserve`: `n` zeros that fit were written at the position, which moved after them.
use Rattle.std.proofs.Common.{rules, arith}
use Rattle.std.proofs.lemmas.List.{length-replicate}
use Rattle.amq_protocol_types.proofs.Slices.{put_next}
use Rattle.amq_protocol_types.proofs.generation.slice.SliceOutputBackToTheBuffer.reserve.Goals as goal

pub returns-clause-written : goal.returns-clause-written
returns-clause-written c = (put_next _ _ _ _ _ _ c.self.view_is (search rules) (length-replicate c.args.n 0) (omega arith)).written
