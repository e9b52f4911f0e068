-- `to_json`: what `text_of_canonical` guarantees for any value holds for this one.
use Rattle.std.proofs.Common.{rules, ◌≡◌, string_bytes}
use Rattle.std.proofs.lemmas.Result.{IfOk-weaker, IfErr-weaker}
use Rattle.amqp_value_core.specs.Texts.{text}
use Rattle.amqp_value_core.specs.Values.{Tree}
use Rattle.amqp_value_core.specs.View.{view}
use Rattle.amqp_json.specs.Conversions.{HasNoText}
use Rattle.amqp_json.specs.Views.{IsReadBack}
use Rattle.amqp_json.specs.Written.{json_text, MeansIfShallow}
use Rattle.amqp_json.proofs.printing.to_json.Goals as goal

pub text_of_canonical-requires : goal.text_of_canonical-requires
text_of_canonical-requires c =
    let is : c.as_slice.result.now ≡ text (view c.args.value.now) = search rules in
    record { canonical = (view c.args.value.now, is, c.in_ok-bytes.ensures.back) }

pub returns-clause-text : goal.returns-clause-text
returns-clause-text c =
    let o = view c.args.value.now in
    let is : c.as_slice.result.now ≡ text o = search rules in
    IfOk-weaker c.text_of_canonical.result (λ s. (v : Tree) → c.as_slice.result.now ≡ text v → IsReadBack v → string_bytes s ≡ json_text v) (λ s. string_bytes s ≡ json_text o) (λ s h. h o is c.in_ok-bytes.ensures.back) c.text_of_canonical.ensures.text

pub returns-clause-read_back : goal.returns-clause-read_back
returns-clause-read_back c =
    let o = view c.args.value.now in
    let is : c.as_slice.result.now ≡ text o = search rules in
    IfOk-weaker c.text_of_canonical.result (λ s. (v : Tree) → c.as_slice.result.now ≡ text v → IsReadBack v → MeansIfShallow v (string_bytes s) v) (λ s. MeansIfShallow o (string_bytes s) o) (λ s h. h o is c.in_ok-bytes.ensures.back) c.text_of_canonical.ensures.read_back

pub returns-clause-refused : goal.returns-clause-refused
returns-clause-refused c =
    let o = view c.args.value.now in
    let is : c.as_slice.result.now ≡ text o = search rules in
    IfErr-weaker c.text_of_canonical.result (λ e. (v : Tree) → c.as_slice.result.now ≡ text v → IsReadBack v → HasNoText v e) (HasNoText o) (λ e h. h o is c.in_ok-bytes.ensures.back) c.text_of_canonical.ensures.refused
