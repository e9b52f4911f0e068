-- `read_head`: the head of the payload, or its error, is that of the value with the type tag.
use Rattle.amqp_value_core.specs.Bytes.{slice_bytes}
use Rattle.amqp_in_place.proofs.HeadLemmas.{head_result}
use Rattle.amqp_in_place.proofs.head.read_head.Goals as goal

pub returns : goal.returns
returns c =
    head_result (slice_bytes c.args.i) (slice_bytes c.in_ok-i.i) c.in_ok-i.amqp_type c.in_ok-i.ensures.id c.read_payload_head.result c.read_payload_head.ensures
