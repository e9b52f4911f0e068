-- `write_name` writes a key after its length: two adjacent writes are one write of both.
use Rattle.std.proofs.Common.{◌+◌, ℕ, List, [], ◌∷◌, length, refl, ap, ◌∙◌, arith}
use Rattle.amqp_c.specs.CallResults.{with_bytes}
use Rattle.amqp_c.proofs.Buffers.{with_bytes-join}
use Rattle.amqp_c.proofs.buffer.write_name.Goals as goal

pub returns-then-tag-eq70 : goal.returns-then-tag-eq70
returns-then-tag-eq70 c =
    let at = c.args.at in
    let k = c.args.key.now in
    let old = c.args.buffer.now in
    c.write_bytes.ensures
    ∙ (ap (λ (r : List ℕ). with_bytes (at + 1) k r) c.write.ensures
    ∙ (with_bytes-join at (at + 1) (length k ∷ []) k old (omega arith) (omega (arith, c.requires.buffer, simp c.if-tag-eq70.true at c.requires.buffer))
    ∙ rw c.if-tag-eq70.true refl))
