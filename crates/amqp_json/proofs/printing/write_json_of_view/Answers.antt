-- `write_json_of_view`: what `put_value` puts at the start of the buffer is the text of the value.
use Rattle.std.proofs.Common.{refl, arith}
use Rattle.amqp_in_place.specs.Written.{written}
use Rattle.amqp_json.specs.Written.{json_text}
use Rattle.amqp_json.proofs.AsWritten.{read_as}
use Rattle.amqp_json.proofs.PrintedTexts.{decoded, text_begins, text_written}
use Rattle.amqp_json.proofs.printing.write_json_of_view.Goals as goal

pub returns : goal.returns
returns c = record {
  written = λ l s rest read.
      let at = read_as l s rest c.args.value read in
      let u = written at.0 at.1 at.2 in
      let old = c.args.buffer.now in
      let text = text_begins u old c.put_value.new.buffer c.put_value.result (c.put_value.ensures u at.5) in
      text_written l s (json_text u) rest old c.put_value.new.buffer c.put_value.result.count (decoded l s rest (json_text u) c.args.value at refl) text (omega arith);
}
