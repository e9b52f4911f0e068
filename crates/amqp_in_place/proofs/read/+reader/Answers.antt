-- Reading in place: a value is read exactly if its head is and its body is valid, and a body is
-- valid exactly if its loop reads entries to its end.
use Rattle.std.proofs.Common.{[], ◌∷◌, ◌++◌, subst, sym, rules, arith}
use Rattle.std.specs.Str.{IsUtf8}
use Rattle.amqp_value_core.specs.Values.{no_entries, trees_of}
use Rattle.amqp_value_core.specs.Maps.{insert}
use Rattle.amqp_value_core.specs.Bytes.{slice_bytes}
use Rattle.amq_protocol_types.proofs.ParsingLaws.{ArrayBodyRead-step, ArrayBodyRead-end, rest_shorter, TableBodyRead-start, TableBodyRead-step, TableBodyRead-end, key_shorter}
use Rattle.amqp_in_place.proofs.HeadLemmas.{key_found, key_refused, head_read, head_bad, body_shorter}
use Rattle.amqp_in_place.proofs.Reading.{bad_value, bad_pair, bad_key, no_key_there}
use Rattle.amqp_in_place.proofs.Places.{inside}
use Rattle.amqp_in_place.proofs.read.+reader.Goals as goal

pub are_pairs-pairs-init : goal.are_pairs-pairs-init
are_pairs-pairs-init t c = (no_entries, TableBodyRead-start c.args.depth (slice_bytes c.args.body))

pub are_pairs-returns-in_default-clause-no : goal.are_pairs-returns-in_default-clause-no
are_pairs-returns-in_default-clause-no t c = λ _.
    let at = c.pairs.invariant in
    bad_key c.args.depth (slice_bytes c.args.body) at.0 (slice_bytes c.pairs.rest) c.in_default.field-0 at.1 (omega arith) c.in_default.ensures

pub are_pairs-returns-in_default-check_utf8-clause-no : goal.are_pairs-returns-in_default-check_utf8-clause-no
are_pairs-returns-in_default-check_utf8-clause-no t c = λ _.
    let at = c.pairs.invariant in
    let s = slice_bytes c.pairs.rest in
    no_key_there c.args.depth (slice_bytes c.args.body) at.0 s at.1 (omega arith)
    (key_refused s (slice_bytes c.in-Ok.key) (slice_bytes c.in-Ok.after_key) c.in-Ok.ensures
    (λ utf8. c.in_default-check_utf8.ensures (subst IsUtf8 (sym c.as_slice.ensures) utf8)))

pub are_pairs-returns-in_default-value_within-clause-no : goal.are_pairs-returns-in_default-value_within-clause-no
are_pairs-returns-in_default-value_within-clause-no t c = λ _.
    let at = c.pairs.invariant in
    let s = slice_bytes c.pairs.rest in
    let k = slice_bytes c.in-Ok.key in
    let after_key = slice_bytes c.in-Ok.after_key in
    bad_pair c.args.depth (slice_bytes c.args.body) at.0 s k after_key c.in_default-value_within.field-0 at.1
    (key_found s k after_key c.in-Ok.ensures (subst IsUtf8 c.as_slice.ensures c.in-Ok-check_utf8.ensures)) c.in_default-value_within.ensures.outcome

pub are_pairs-pairs-smaller : goal.are_pairs-pairs-smaller
are_pairs-pairs-smaller t c =
    let s = slice_bytes c.pairs.rest in
    let k = slice_bytes c.in-Ok.key in
    let after_key = slice_bytes c.in-Ok.after_key in
    let x = c.in-Ok-value_within.ensures.outcome in
    omega (arith, key_shorter s k after_key (key_found s k after_key c.in-Ok.ensures (subst IsUtf8 c.as_slice.ensures c.in-Ok-check_utf8.ensures)), rest_shorter c.args.depth after_key x.0 (slice_bytes c.in-Ok-value_within.after) x.2)

pub are_pairs-pairs-preserved : goal.are_pairs-pairs-preserved
are_pairs-pairs-preserved t c =
    let at = c.pairs.invariant in
    let s = slice_bytes c.pairs.rest in
    let k = slice_bytes c.in-Ok.key in
    let after_key = slice_bytes c.in-Ok.after_key in
    let x = c.in-Ok-value_within.ensures.outcome in
    (insert k x.0 at.0, TableBodyRead-step c.args.depth (slice_bytes c.args.body) at.0 s k after_key x.0 (slice_bytes c.in-Ok-value_within.after) at.1 (key_found s k after_key c.in-Ok.ensures (subst IsUtf8 c.as_slice.ensures c.in-Ok-check_utf8.ensures)) x.2)

pub are_pairs-returns-clause-yes : goal.are_pairs-returns-clause-yes
are_pairs-returns-clause-yes t c = λ _.
    let at = c.pairs.invariant in
    (at.0, TableBodyRead-end c.args.depth (slice_bytes c.args.body) at.0 (slice_bytes c.pairs.rest) at.1 (omega arith))

pub are_values-returns-in_default-clause-no : goal.are_values-returns-in_default-clause-no
are_values-returns-in_default-clause-no t c = λ _.
    let at = c.values.invariant in
    bad_value c.args.depth (slice_bytes c.args.body) at.0 (slice_bytes c.values.rest) c.in_default.field-0 at.1 (omega arith) c.in_default.ensures.outcome

pub are_values-values-smaller : goal.are_values-values-smaller
are_values-values-smaller t c =
    let x = c.in-Ok.ensures.outcome in
    rest_shorter c.args.depth (slice_bytes c.values.rest) x.0 (slice_bytes c.in-Ok.after) x.2

pub are_values-values-preserved : goal.are_values-values-preserved
are_values-values-preserved t c =
    let at = c.values.invariant in
    let x = c.in-Ok.ensures.outcome in
    (at.0 ++ x.0 ∷ [], ArrayBodyRead-step c.args.depth (slice_bytes c.args.body) at.0 (slice_bytes c.values.rest) x.0 (slice_bytes c.in-Ok.after) at.1 x.2)

pub are_values-returns-clause-yes : goal.are_values-returns-clause-yes
are_values-returns-clause-yes t c = λ _.
    let at = c.values.invariant in
    (trees_of at.0, ArrayBodyRead-end c.args.depth (slice_bytes c.args.body) at.0 (slice_bytes c.values.rest) at.1 (omega arith))

-- ---- values

pub value_within-has_valid_body-requires : goal.value_within-has_valid_body-requires
value_within-has_valid_body-requires t c =
    omega (arith, c.decreases, body_shorter (slice_bytes c.args.i) c.in_ok-rest.head (slice_bytes c.in_ok-rest.rest) c.in_ok-rest.ensures)

pub value_within-returns-then-not-has_valid_body-clause-outcome : goal.value_within-returns-then-not-has_valid_body-clause-outcome
value_within-returns-then-not-has_valid_body-clause-outcome t c =
    rw c.error_of_kind.ensures
    (head_bad c.args.depth (slice_bytes c.args.i) (slice_bytes c.in_ok-rest.rest) c.in_ok-rest.head c.in_ok-rest.ensures (c.has_valid_body.ensures.no (search rules)))

pub value_within-value_of-requires : goal.value_within-value_of-requires
value_within-value_of-requires t c =
    let f = head_read c.args.depth (slice_bytes c.args.i) (slice_bytes c.in_ok-rest.rest) c.in_ok-rest.head c.in_ok-rest.ensures (c.has_valid_body.ensures.yes (search rules)) in
    ∣ (f.0, f.1) ∣₁

pub value_within-returns-clause-outcome : goal.value_within-returns-clause-outcome
value_within-returns-clause-outcome t c =
    let f = head_read c.args.depth (slice_bytes c.args.i) (slice_bytes c.in_ok-rest.rest) c.in_ok-rest.head c.in_ok-rest.ensures (c.has_valid_body.ensures.yes (search rules)) in
    (f.0, c.value_of.ensures.means f.0 f.1, f.2)

pub value_within-returns-clause-inside : goal.value_within-returns-clause-inside
value_within-returns-clause-inside t c =
    inside (slice_bytes c.args.i) c.in_ok-rest.head c.value_of.result (slice_bytes c.in_ok-rest.rest) c.in_ok-rest.ensures c.value_of.ensures.refers
