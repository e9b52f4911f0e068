-- `canonical_encoding`: an encoding that `is_canonical` accepts is the `text` of what the JSON
-- means, and `canonical_of` converts any other to it.
use Rattle.std.proofs.Common.{◌≡◌, Some, refl}
use Rattle.std.proofs.lemmas.Result.{IfOk-weaker}
use Rattle.amqp_value_core.specs.Grammar.{Wire}
use Rattle.amqp_value_core.specs.Texts.{text}
use Rattle.amqp_value_core.specs.Values.{Tree}
use Rattle.amqp_json.specs.Conversions.{IsEncodingWithin}
use Rattle.amqp_json.specs.Meaning.{meant_within}
use Rattle.amqp_json.proofs.Encodings.{as_written, encodes_meant}
use Rattle.amqp_json.proofs.reading.canonical_encoding.Goals as goal

pub returns-then-is_canonical-clause-ok : goal.returns-then-is_canonical-clause-ok
returns-then-is_canonical-clause-ok c = as_written c.args.levels _ c.args.json.now c.in_ok-bytes.bytes.items c.as_slice.result.now c.in_ok-bytes.ensures.ok c.as_slice.ensures.value (c.if-is_canonical.ensures.written refl)

pub returns-clause-ok : goal.returns-clause-ok
returns-clause-ok c =
    let (v, means, is) = c.in_ok-bytes.ensures.ok in
    IfOk-weaker c.canonical_of.result (λ out. (v : Tree) → Wire c.in_ok-bytes.bytes.items v → out.items ≡ text v) (λ out. IsEncodingWithin c.args.levels c.args.json.now out.items) (λ out h. (v, means, h v is)) c.canonical_of.ensures.ok

pub returns-then-is_canonical-clause-encodes : goal.returns-then-is_canonical-clause-encodes
returns-then-is_canonical-clause-encodes c v means = encodes_meant c.args.levels c.args.json.now c.in_ok-bytes.bytes.items v c.in_ok-bytes.ensures.ok means

pub returns-clause-encodes : goal.returns-clause-encodes
returns-clause-encodes c =
    let t = c.args.json.now in
    let s = c.in_ok-bytes.bytes.items in
    IfOk-weaker c.canonical_of.result (λ out. (v : Tree) → Wire s v → Wire out.items v) (λ out. (v : Tree) → meant_within c.args.levels t ≡ Some v → Wire out.items v) (λ out h v means. h v (encodes_meant c.args.levels t s v c.in_ok-bytes.ensures.ok means)) c.canonical_of.ensures.encodes
