-- `text_with`: the text fits the buffer, and is what is put at its start.
use Rattle.std.proofs.Common.{ap, ◌∙◌, arith}
use Rattle.amqp_json.specs.Decimals.{rounded}
use Rattle.amqp_json.proofs.Printed.{bytes_first}
use Rattle.amqp_json.proofs.printing.decimals.text_with.Goals as goal

pub shared_ref_as_front-result : goal.shared_ref_as_front-result
shared_ref_as_front-result c =
    let e = c.put_rounded-end.ensures in
    let is = bytes_first _ c.put_rounded-end.new.buffer (rounded c.double_of.result c.args.places) c.put_rounded-end.result e.puts (omega (arith, e.short, c.told-buffer)) (omega (arith, c.told-buffer)) in
    omega (arith, is.0, e.short)

pub returns : goal.returns
returns c =
    let e = c.put_rounded-end.ensures in
    let is = bytes_first _ c.put_rounded-end.new.buffer (rounded c.double_of.result c.args.places) c.put_rounded-end.result e.puts (omega (arith, e.short, c.told-buffer)) (omega (arith, c.told-buffer)) in
    is.1 ∙ ap (λ n. rounded n c.args.places) c.double_of.ensures
