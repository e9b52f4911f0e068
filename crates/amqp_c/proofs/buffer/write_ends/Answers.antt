-- `write_ends` writes all the bytes: the first N and the last N cover any N to 2 * N bytes.
use Rattle.std.proofs.Common.{◌+◌, ◌-◌, List, ℕ, length, refl, ap, ap₂, ◌∙◌}
use Rattle.amqp_c.specs.CallResults.{with_bytes}
use Rattle.amqp_c.proofs.Buffers.{with_bytes-ends}
use Rattle.amqp_c.proofs.buffer.write_ends.Goals as goal

pub returns : goal.returns
returns g c =
    let b = c.args.bytes.now in
    let at = c.args.at in
    let last = at + length b - g.row.N in
    c.write-2.ensures
    ∙ (ap₂ (λ (t r : List ℕ). with_bytes last t r) c.in-Some-last_chunk.ensures.cases.1.same
    (c.write.ensures ∙ ap (λ (t : List ℕ). with_bytes at t c.args.buffer.now) c.in-Some.ensures.cases.same)
    ∙ with_bytes-ends g.row.N (length b) at last b c.args.buffer.now refl c.requires.least c.requires.most c.requires.fits refl)
