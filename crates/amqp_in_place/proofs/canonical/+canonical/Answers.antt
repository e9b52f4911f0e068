-- The checks for a canonical encoding: each rejects only bytes that start with none, since a
-- canonical value or pair has what it looks for; and what passes all of them is one.
use Rattle.std.proofs.Common.{sym, subst, rules, arith}
use Rattle.std.specs.Str.{IsUtf8}
use Rattle.amqp_value_core.specs.Bytes.{slice_bytes}
use Rattle.amqp_in_place.specs.Canonicals.{IsAbove, IsFirstSpelling}
use Rattle.amqp_in_place.proofs.HeadLemmas.{body_shorter}
use Rattle.amqp_in_place.proofs.Stepping.{never_refused}
use Rattle.amqp_in_place.proofs.Canonicals.{spelling_at_start, head_at_start, head_inside, canon_at, rest_shorter, no_values, first_value, values_after, values_before, no_pairs, key_there, key_utf8, key_above, value_after, pairs_after, pairs_before, pair_shorter}
use Rattle.amqp_in_place.proofs.canonical.+canonical.Goals as goal

pub after_canonical-returns-then-not-is_first_spelling-clause-none : goal.after_canonical-returns-then-not-is_first_spelling-clause-none
after_canonical-returns-then-not-is_first_spelling-clause-none t c = λ _ left x.
    c.is_first_spelling.ensures.no (search rules) (subst IsFirstSpelling (sym c.as_slice.ensures) (spelling_at_start c.args.depth (slice_bytes c.args.i) left x))

pub after_canonical-returns-in_default-clause-none : goal.after_canonical-returns-in_default-clause-none
after_canonical-returns-in_default-clause-none t c = λ _ left x.
    let s = slice_bytes c.args.i in
    never_refused s c.in_default.field-0 (canon_at c.args.depth s left x) c.in_default.ensures

pub after_canonical-has_canonical_body-requires : goal.after_canonical-has_canonical_body-requires
after_canonical-has_canonical_body-requires t c =
    omega (arith, c.decreases, body_shorter (slice_bytes c.args.i) c.in-Ok.head (slice_bytes c.in-Ok.rest) c.in-Ok.ensures)

pub after_canonical-returns-then-not-has_canonical_body-clause-none : goal.after_canonical-returns-then-not-has_canonical_body-clause-none
after_canonical-returns-then-not-has_canonical_body-clause-none t c = λ _ left x.
    c.has_canonical_body.ensures.no (search rules) (head_inside c.args.depth (slice_bytes c.args.i) (slice_bytes c.in-Ok.rest) c.in-Ok.head left c.in-Ok.ensures x)

pub after_canonical-returns-clause-rest : goal.after_canonical-returns-clause-rest
after_canonical-returns-clause-rest t c =
    head_at_start c.args.depth (slice_bytes c.args.i) (slice_bytes c.in-Ok.rest) c.in-Ok.head c.in-Ok.ensures
    (subst IsFirstSpelling c.as_slice.ensures (c.is_first_spelling.ensures.yes (search rules))) (c.has_canonical_body.ensures.yes (search rules))

-- ---- values

pub are_canonical_values-returns-in_default-clause-no : goal.are_canonical_values-returns-in_default-clause-no
are_canonical_values-returns-in_default-clause-no t c = λ _ all.
    let first = first_value c.args.depth (slice_bytes c.values.rest) (omega arith) (c.values.invariant.0 all) in
    c.after_canonical.ensures.none c.in_default.is first.0 first.1

pub are_canonical_values-values-smaller : goal.are_canonical_values-values-smaller
are_canonical_values-values-smaller t c =
    rest_shorter c.args.depth (slice_bytes c.values.rest) (slice_bytes c.in-Some.after) c.in-Some.ensures.rest

pub are_canonical_values-values-preserved : goal.are_canonical_values-values-preserved
are_canonical_values-values-preserved t c =
    let rest = slice_bytes c.values.rest in
    let after = slice_bytes c.in-Some.after in
    let prefix = c.in-Some.ensures.rest in (
      λ all. values_after c.args.depth rest after prefix (c.values.invariant.0 all),
      λ all. c.values.invariant.1 (values_before c.args.depth rest after prefix all),
      omega (arith, rest_shorter c.args.depth rest after prefix, c.values.invariant.2),
    )

pub are_canonical_values-returns-clause-yes : goal.are_canonical_values-returns-clause-yes
are_canonical_values-returns-clause-yes t c = λ _. c.values.invariant.1 (no_values c.args.depth (slice_bytes c.values.rest) (omega arith))

-- ---- pairs

pub are_canonical_pairs-returns-in_default-clause-no : goal.are_canonical_pairs-returns-in_default-clause-no
are_canonical_pairs-returns-in_default-clause-no t c = λ _ all.
    key_there c.args.depth c.pairs.previous (slice_bytes c.pairs.rest) c.in_default.field-0 (omega arith) (c.pairs.invariant.0 all) c.in_default.ensures

pub are_canonical_pairs-returns-then-not-is_above-clause-no : goal.are_canonical_pairs-returns-then-not-is_above-clause-no
are_canonical_pairs-returns-then-not-is_above-clause-no t c = λ _ all.
    let above = key_above c.args.depth c.pairs.previous (slice_bytes c.pairs.rest) (slice_bytes c.in-Ok.key) (slice_bytes c.in-Ok.after_key) c.in-Ok.ensures (c.pairs.invariant.0 all) in
    c.is_above.ensures.no (search rules) (subst (IsAbove c.pairs.previous) (sym c.as_slice-key.ensures) above)

pub are_canonical_pairs-returns-in_default-check_utf8-clause-no : goal.are_canonical_pairs-returns-in_default-check_utf8-clause-no
are_canonical_pairs-returns-in_default-check_utf8-clause-no t c = λ _ all.
    let utf8 = key_utf8 c.args.depth c.pairs.previous (slice_bytes c.pairs.rest) (slice_bytes c.in-Ok.key) (slice_bytes c.in-Ok.after_key) c.in-Ok.ensures (c.pairs.invariant.0 all) in
    c.in_default-check_utf8.ensures (subst IsUtf8 (sym c.as_slice-key.ensures) utf8)

pub are_canonical_pairs-returns-in_default-after_canonical-clause-no : goal.are_canonical_pairs-returns-in_default-after_canonical-clause-no
are_canonical_pairs-returns-in_default-after_canonical-clause-no t c = λ _ all.
    let x = value_after c.args.depth c.pairs.previous (slice_bytes c.pairs.rest) (slice_bytes c.in-Ok.key) (slice_bytes c.in-Ok.after_key) c.in-Ok.ensures (c.pairs.invariant.0 all) in
    c.after_canonical.ensures.none c.in_default-after_canonical.is x.0 x.1

pub are_canonical_pairs-pairs-smaller : goal.are_canonical_pairs-pairs-smaller
are_canonical_pairs-pairs-smaller t c =
    pair_shorter c.args.depth c.pairs.previous (slice_bytes c.pairs.rest) (slice_bytes c.in-Ok.key) (slice_bytes c.in-Ok.after_key) c.in-Ok.ensures (slice_bytes c.in-Some.after) c.in-Some.ensures.rest

pub are_canonical_pairs-pairs-preserved : goal.are_canonical_pairs-pairs-preserved
are_canonical_pairs-pairs-preserved t c =
    let j = c.pairs.previous in
    let rest = slice_bytes c.pairs.rest in
    let key = slice_bytes c.in-Ok.key in
    let after_key = slice_bytes c.in-Ok.after_key in
    let after = slice_bytes c.in-Some.after in
    let prefix = c.in-Some.ensures.rest in
    let same = c.as_slice-key.ensures in
    let utf8 = subst IsUtf8 same c.in-Ok-check_utf8.ensures in
    let above = subst (IsAbove j) same (c.is_above.ensures.yes (search rules)) in (
      λ all. pairs_after c.args.depth j rest key after_key c.in-Ok.ensures after prefix c.as_slice-key.result same (c.pairs.invariant.0 all),
      λ all. c.pairs.invariant.1 (pairs_before c.args.depth j rest key after_key c.in-Ok.ensures after prefix c.as_slice-key.result same utf8 above all),
      omega (arith, pair_shorter c.args.depth j rest key after_key c.in-Ok.ensures after prefix, c.pairs.invariant.2),
    )

pub are_canonical_pairs-returns-clause-yes : goal.are_canonical_pairs-returns-clause-yes
are_canonical_pairs-returns-clause-yes t c = λ _. c.pairs.invariant.1 (no_pairs c.args.depth c.pairs.previous (slice_bytes c.pairs.rest) (omega arith))
