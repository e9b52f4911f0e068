-- `put_scalar` puts an entry with the value of fixed width: the parts of `encoding_of` are its
-- canonical encoding.
use Rattle.std.proofs.Common.{◌∷◌, take, ◌∙◌}
use Rattle.amqp_value_core.specs.Values.{scalar}
use Rattle.amqp_c.specs.Items.{fixed_width}
use Rattle.amqp_c.proofs.EncodingsByRules.{plain_reads}
use Rattle.amqp_c.proofs.PutEntries.{put_of, scalar_wire}
use Rattle.amqp_c.proofs.put.put_scalar.Goals as goal

pub returns-clause-put : goal.returns-clause-put
returns-clause-put c =
    let tag = c.args.tag in
    let bits = c.args.bits in
    let scale = c.args.scale in
    let x = c.in_ok-encoding.ensures in
    let bytes = c.parts-tag.result.0 ∷ take c.parts-tag.result.2 c.parts-tag.result.1 in
    let same = c.parts-tag.ensures.parts ∙ x.2 in
    let wire = scalar_wire tag bits scale bytes x.0 x.1 same in
    put_of (fixed_width tag bits scale) c.args.buffer.now c.append.new.buffer c.args.key.now bytes c.args.into c.append.result c.in_ok-at.ensures.0
    (x.0, x.1, same, wire) (λ rules depth any deep. plain_reads bytes (scalar x.0) wire tt rules depth any) c.append.ensures.appended
