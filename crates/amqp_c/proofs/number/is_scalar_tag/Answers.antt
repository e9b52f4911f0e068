-- `is_scalar_tag`: a value of fixed width has the type tag if the tag's type has no content, and is
-- written with this tag.
use Rattle.std.proofs.Common.{◌∙◌, sym}
use Rattle.amqp_c.proofs.Scalars.{same_id}
use Rattle.amqp_c.proofs.number.is_scalar_tag.Goals as goal

pub returns : goal.returns
returns c =
    same_id c.args.tag c.in-Some.amqp_type (sym c.has_content.ensures ∙ c.if-has_content.false) c.in-Some.ensures.read_back
    (sym c.get_id-written.ensures.id ∙ c.if-written-tag.false)
