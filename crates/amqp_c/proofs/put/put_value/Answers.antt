-- `put_value` puts an entry with the value that is read: the bytes that its header counts are all
-- there, and are its encoding, after the type tag if the input lacks it.
use Rattle.std.proofs.Common.{◌≡◌, ◌-◌, ◌++◌, None, length, take, refl, sym, ◌∙◌, subst, arith}
use Rattle.std.proofs.lemmas.List.{length-take-le}
use Rattle.amqp_c.specs.Inputs.{read_error}
use Rattle.amqp_c.specs.Items.{IsEncodingBy, encoded}
use Rattle.amqp_c.proofs.PutEntries.{put_of, read_by, read_encoding, bytes_there, copied}
use Rattle.amqp_c.proofs.put.put_value.Goals as goal

pub slice_bounds-bytes-length : goal.slice_bounds-bytes-length
slice_bounds-bytes-length c =
    let input = c.args.input.now in
    let tag = c.missing_tag-tag.result.now in
    let none : read_error c.args.rules input ≡ None = sym c.read_error.ensures.first ∙ c.in_default.is in
    let there = bytes_there c.args.rules input c.value_length.result tag none c.value_length.ensures.length c.missing_tag-tag.ensures in
    sym (length-take-le (c.value_length.result - length tag) input.bytes.now there.1)

pub append-requires-clause-limited : goal.append-requires-clause-limited
append-requires-clause-limited c =
    let input = c.args.input.now in
    let tag = c.missing_tag-tag.result.now in
    let none : read_error c.args.rules input ≡ None = sym c.read_error.ensures.first ∙ c.in_default.is in
    let there = bytes_there c.args.rules input c.value_length.result tag none c.value_length.ensures.length c.missing_tag-tag.ensures in
    omega (arith, length-take-le (c.value_length.result - length tag) input.bytes.now there.1, c.value_length.ensures.small)

pub returns-clause-put : goal.returns-clause-put
returns-clause-put c =
    let rules = c.args.rules in
    let input = c.args.input.now in
    let tag = c.missing_tag-tag.result.now in
    let w = tag ++ take (c.value_length.result - length tag) input.bytes.now in
    let none : read_error rules input ≡ None = sym c.read_error.ensures.first ∙ c.in_default.is in
    let same = copied rules input c.value_length.result tag none c.value_length.ensures.length c.missing_tag-tag.ensures in
    put_of (encoded rules input) c.args.buffer.now c.append.new.buffer c.args.key.now w c.args.into c.append.result c.in_ok-at.ensures.0
    (read_encoding rules input w none (λ reading. (c.in_default.ensures.read reading).0 refl) same)
    (λ other depth is deep. subst (IsEncodingBy other depth) (sym same) (read_by rules input none other depth is deep)) c.append.ensures.appended
