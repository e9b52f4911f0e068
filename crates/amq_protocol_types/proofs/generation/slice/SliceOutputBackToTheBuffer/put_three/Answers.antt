-- `SliceOutput::put_three`: bytes that fit were copied to the position, the last one first.
use Rattle.std.proofs.Common.{ℕ, ◌+◌, ◌-◌, List, true, Ok, refl, sym, ap, ◌∙◌, subst, arith, ◌∷◌, [], ◌++◌, length}
use Rattle.std.specs.Bool.{⊤}
use borrow.Rule.Slice.PartMut.{put_mid}
use Rattle.amq_protocol_types.specs.generation.Outputs.{Writes}
use Rattle.amq_protocol_types.specs.generation.OutputViews.{seen_slice}
use Rattle.amq_protocol_types.proofs.Slices.{put_next, as_long, either_first, cut_at}
use Rattle.amq_protocol_types.proofs.Steps.{both_put}
use Rattle.amq_protocol_types.proofs.generation.slice.SliceOutputBackToTheBuffer.put_three.Goals as goal

pub returns : goal.returns
returns c =
    let xs = c.self.inside.slice.now in
    let at = c.self.inside.at in
    let middle = at + length c.args.a.now in
    let end = middle + length c.args.b.now in
    let first = c.copy_from_slice-2.new.self in
    let second = c.copy_from_slice-3.new.self in
    let last = c.copy_from_slice.new.self in
    let ordered = put_mid at (middle - at) xs first in
    let a = ap length c.copy_from_slice-2.ensures.after in
    let b = ap length c.copy_from_slice-3.ensures.after in
    let o = ap length c.copy_from_slice.ensures.after in
    let long = as_long at (middle - at) xs first (omega (arith, a)) (omega arith) in
    let longer = as_long middle (end - middle) ordered second (omega (arith, b)) (omega (arith, long)) in
    let one = either_first at (middle - at) end (end + 1 - end) xs first last (omega (arith, a)) (omega (arith, o)) (omega arith) (omega arith) in
    let two = either_first middle (end - middle) end (end + 1 - end) ordered second last (omega (arith, b)) (omega (arith, o)) (omega arith) (omega (arith, long)) in
    let P : List ℕ → Type 0 = λ ys. Writes true ⊤ (c.args.a.now ++ (c.args.b.now ++ c.args.c ∷ [])) (seen_slice c.args.self.now) (Ok tt) (seen_slice (cut_at ys (end + 1))) in
    subst P (sym (ap (λ ys. put_mid middle (end - middle) ys second) one ∙ two))
    (both_put ⊤ _ refl (λ _ _. tt) (put_next _ _ _ _ _ _ c.self.view_is c.copy_from_slice-2.ensures.after refl (omega arith)).written
    (both_put ⊤ (c.args.b.now ++ c.args.c ∷ []) refl (λ _ _. tt) (put_next _ _ _ _ _ _ refl c.copy_from_slice-3.ensures.after refl (omega (arith, long))).written
    (put_next _ _ _ _ _ _ refl c.copy_from_slice.ensures.after refl (omega (arith, long, longer))).written))
