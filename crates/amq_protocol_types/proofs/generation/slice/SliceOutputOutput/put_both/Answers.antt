-- `SliceOutput::put_both`: bytes that fit were copied to the position one after another.
use Rattle.std.proofs.Common.{refl, arith}
use Rattle.std.specs.Bool.{⊤}
use Rattle.amq_protocol_types.proofs.Slices.{put_next}
use Rattle.amq_protocol_types.proofs.Steps.{both_put}
use Rattle.amq_protocol_types.proofs.generation.slice.SliceOutputOutput.put_both.Goals as goal

pub returns : goal.returns
returns c =
    both_put ⊤ _ refl (λ _ _. tt) (put_next _ _ _ _ _ _ c.self.view_is c.copy_from_slice.ensures.after refl (omega arith)).written
    (put_next _ _ _ _ _ _ refl c.copy_from_slice-2.ensures.after refl (omega arith)).written
