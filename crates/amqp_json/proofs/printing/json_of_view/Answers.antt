-- `json_of_view`: a value that was read within the limits has a JSON text, which means the value.
use Rattle.std.proofs.Common.{◌≡◌, List, ℕ, string_bytes}
use Rattle.std.proofs.lemmas.Result.{IfOk-weaker}
use Rattle.amq_protocol_types.specs.declared.parsing.within.Limits.{Limits}
use Rattle.amqp_value_core.specs.Values.{Tree}
use Rattle.amqp_in_place.specs.Written.{written, IsWrittenAs}
use Rattle.amqp_json.specs.Conversions.{IsJsonOf}
use Rattle.amqp_json.specs.Views.{IsViewOfRead}
use Rattle.amqp_json.specs.Written.{json_text}
use Rattle.amqp_json.proofs.AsWritten.{read_as}
use Rattle.amqp_json.proofs.PrintedTexts.{decoded}
use Rattle.amqp_json.proofs.printing.json_of_view.Goals as goal

pub text_of-requires : goal.text_of-requires
text_of-requires c =
    let (l, s, rest, read) = c.requires.read in
    let (w, v, p, split, within, viewed, has) = read_as l s rest c.args.value read in
    record { json = (written w v p, viewed, has) }

pub returns : goal.returns
returns c = record {
  json = IfOk-weaker c.text_of.result (λ t. (u : Tree) → IsWrittenAs c.args.value u → string_bytes t ≡ json_text u) (λ t. (l : Limits) (s rest : List ℕ) → IsViewOfRead l s c.args.value rest → IsJsonOf l s (string_bytes t) rest)
      (λ t is l s rest read.
      let at = read_as l s rest c.args.value read in
      decoded l s rest (string_bytes t) c.args.value at (is (written at.0 at.1 at.2) at.5))
      c.text_of.ensures.text;
}
