-- `next_pair`: the first of some pairs has a key, which is UTF-8, and a value, so both are read;
-- what is after them is pairs.
use Rattle.std.proofs.Common.{◌≡◌, ℕ, List, sym, subst, ◌∙◌, arith}
use Rattle.std.specs.Str.{IsUtf8}
use Rattle.amqp_value_core.specs.Bytes.{slice_bytes}
use Rattle.amqp_in_place.specs.Heads.{IsKeyFrame}
use Rattle.amqp_in_place.proofs.Stepping.{key_there, key_utf8, read_there, meant_there, pair_at_start, pair_given, pairs_after}
use Rattle.amqp_in_place.proofs.Places.{inside}
use Rattle.amqp_in_place.proofs.steps.next_pair.Goals as goal

pub unreachable-requires : goal.unreachable-requires
unreachable-requires c = key_there (slice_bytes c.args.bytes) c.in_default.field-0 (omega arith) c.requires c.in_default.ensures

pub from_utf8_unchecked-key-requires : goal.from_utf8_unchecked-key-requires
from_utf8_unchecked-key-requires c =
    subst IsUtf8 (sym c.as_slice.ensures) (key_utf8 (slice_bytes c.args.bytes) (slice_bytes c.in-Ok.key) (slice_bytes c.in-Ok.after) c.in-Ok.ensures c.requires)

pub unreachable-requires-in_default-read_head : goal.unreachable-requires-in_default-read_head
unreachable-requires-in_default-read_head c =
    read_there (slice_bytes c.in-Ok.after) c.in_default-read_head.field-0 (pair_at_start (slice_bytes c.args.bytes) (slice_bytes c.in-Ok.key) (slice_bytes c.in-Ok.after) c.in-Ok.ensures c.requires) c.in_default-read_head.ensures

pub value_of-requires : goal.value_of-requires
value_of-requires c =
    meant_there (slice_bytes c.in-Ok.after) c.in-Ok-read_head.head (slice_bytes c.in-Ok-read_head.rest) c.in-Ok-read_head.ensures (pair_at_start (slice_bytes c.args.bytes) (slice_bytes c.in-Ok.key) (slice_bytes c.in-Ok.after) c.in-Ok.ensures c.requires)

pub returns-clause-pair : goal.returns-clause-pair
returns-clause-pair c = λ ps p.
    let s = slice_bytes c.args.bytes in
    let after = slice_bytes c.in-Ok.after in
    let text : c.from_utf8_unchecked-key.result.now ≡ slice_bytes c.in-Ok.key = c.from_utf8_unchecked-key.ensures ∙ c.as_slice.ensures in
    let f = subst (λ (k : List ℕ). IsKeyFrame s k after) (sym text) c.in-Ok.ensures in
    pair_given s c.in-Ok-read_head.head ps after (c.from_utf8_unchecked-key.result, c.value_of.result, c.in-Ok-read_head.rest) f c.in-Ok-read_head.ensures c.value_of.ensures.means p

pub returns-clause-more : goal.returns-clause-more
returns-clause-more c =
    pairs_after (slice_bytes c.args.bytes) (slice_bytes c.in-Ok.key) (slice_bytes c.in-Ok.after) c.in-Ok.ensures c.in-Ok-read_head.head (slice_bytes c.in-Ok-read_head.rest) c.in-Ok-read_head.ensures c.requires

pub returns-clause-inside : goal.returns-clause-inside
returns-clause-inside c =
    let s = slice_bytes c.args.bytes in
    let after = slice_bytes c.in-Ok.after in
    let text : c.from_utf8_unchecked-key.result.now ≡ slice_bytes c.in-Ok.key = c.from_utf8_unchecked-key.ensures ∙ c.as_slice.ensures in
    let f = subst (λ (k : List ℕ). IsKeyFrame s k after) (sym text) c.in-Ok.ensures in
    (after, f.framed, inside after c.in-Ok-read_head.head c.value_of.result (slice_bytes c.in-Ok-read_head.rest) c.in-Ok-read_head.ensures c.value_of.ensures.refers)
