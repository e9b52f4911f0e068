-- The closure in `put_two_numbers` only appends, since each of its two generators does.
use Rattle.amq_protocol_types.proofs.Lengths.{write_appends, then_appends}
use Rattle.test_codec.proofs.closures.fn.put_two_numbers.gen_with_len.Goals as goal

pub returns : goal.returns
returns g c =
    let one = g.met.W.BackToTheBuffer.is_one in
    then_appends (write_appends one c.in_ok-gen_short_uint.ensures.put.written) (write_appends one c.gen_short_uint-2.ensures.put.written)
