-- `has_canonical` tells whether the value is encoded canonically: the search for a canonical
-- encoding, which returns its length, finds it or shows that there is none.
use Rattle.std.proofs.Common.{◌+◌, true, false, sym, ◌∙◌}
use Rattle.amqp_c.proofs.Reading.{told}
use Rattle.amqp_c.proofs.read.has_canonical.Goals as goal

pub returns-then-is_untagged : goal.returns-then-is_untagged
returns-then-is_untagged c =
    let untagged = sym c.is_untagged.ensures ∙ c.if-is_untagged.true in
    told c.args.input.now c.bytes.ensures.bytes c.limits.result c.bytes.result.now true c.limits.ensures c.bytes.ensures.same untagged (λ n. 1 + n) c.canonical_table_len.result c.canonical_table_len.ensures.len c.canonical_table_len.ensures.none
    c.is_some.result c.is_some.ensures

pub returns : goal.returns
returns c =
    let untagged = sym c.is_untagged.ensures ∙ c.if-is_untagged.false in
    told c.args.input.now c.bytes-2.ensures.bytes c.limits-2.result c.bytes-2.result.now false c.limits-2.ensures c.bytes-2.ensures.same untagged (λ n. n) c.canonical_len.result c.canonical_len.ensures.len c.canonical_len.ensures.none
    c.is_some-2.result c.is_some-2.ensures
