-- The counts of values and levels: a container has one more than its body, the counts of a body's
-- entries add up, and no count exceeds the number of bytes.
use Rattle.std.proofs.Common.{length, ap, arith}
use Rattle.amqp_value_core.specs.Bytes.{slice_bytes}
use Rattle.amqp_in_place.proofs.Measuring.{values_few, pairs_few, plain_holds, array_holds, table_holds, content_few, content_shorter, pair_shorter, values_start, values_step, values_end, values_so_few, pairs_start, pairs_step, pairs_end, pairs_so_few}
use Rattle.amqp_in_place.proofs.measure.+measurer.Goals as goal

-- ---- a value

pub counts_of_value-with_container-requires : goal.counts_of_value-with_container-requires
counts_of_value-with_container-requires t c =
    let few = values_few (slice_bytes c.body.result) _ _ c.counts_of_values.ensures c.body.ensures.well_formed in
    let most = rw c.in-FieldArray.is at c.requires in
    (omega (arith, few.0, ap length c.body.ensures.body, most), omega (arith, few.1, ap length c.body.ensures.body, most))

pub counts_of_value-with_container-requires-in-FieldTable : goal.counts_of_value-with_container-requires-in-FieldTable
counts_of_value-with_container-requires-in-FieldTable t c =
    let few = pairs_few (slice_bytes c.body-in-FieldTable.result) _ _ c.counts_of_pairs.ensures c.body-in-FieldTable.ensures.well_formed in
    let most = rw c.in-FieldTable.is at c.requires in
    (omega (arith, few.0, ap length c.body-in-FieldTable.ensures.body, most), omega (arith, few.1, ap length c.body-in-FieldTable.ensures.body, most))

pub counts_of_value-returns-in-FieldArray : goal.counts_of_value-returns-in-FieldArray
counts_of_value-returns-in-FieldArray t c =
    array_holds c.args.value c.in-FieldArray.array (slice_bytes c.body.result) _ _ _ _ c.in-FieldArray.is c.body.ensures.body c.counts_of_values.ensures c.with_container.ensures.values c.with_container.ensures.levels

pub counts_of_value-returns-in-FieldTable : goal.counts_of_value-returns-in-FieldTable
counts_of_value-returns-in-FieldTable t c =
    table_holds c.args.value c.in-FieldTable.table (slice_bytes c.body-in-FieldTable.result) _ _ _ _ c.in-FieldTable.is c.body-in-FieldTable.ensures.body c.counts_of_pairs.ensures
    c.with_container-in-FieldTable.ensures.values c.with_container-in-FieldTable.ensures.levels

pub counts_of_value-returns-in_default : goal.counts_of_value-returns-in_default
counts_of_value-returns-in_default t c = plain_holds c.args.value c.in_default.not-FieldArray c.in_default.not-FieldTable

-- ---- values

pub counts_of_values-values-init : goal.counts_of_values-values-init
counts_of_values-values-init t c = values_start (slice_bytes c.args.body) c.requires.0

pub counts_of_values-counts_of_value-requires : goal.counts_of_values-counts_of_value-requires
counts_of_values-counts_of_value-requires t c =
    let s = slice_bytes c.values.rest in
    let after = slice_bytes c.in-Some.after in
    let inside = c.in-Some.ensures.inside in
    (omega (arith, c.decreases, content_shorter c.in-Some.value s after inside c.in-Some.ensures.more.0, c.values.invariant.shorter), content_few c.in-Some.value s after inside)

pub counts_of_values-and-held-requires : goal.counts_of_values-and-held-requires
counts_of_values-and-held-requires t c =
    let step = values_step (slice_bytes c.args.body) _ _ (slice_bytes c.values.rest) c.values.invariant c.in-Some.value (slice_bytes c.in-Some.after) _ _ c.in-Some.ensures.more c.in-Some.ensures.inside c.counts_of_value.ensures in
    omega (arith, values_so_few (slice_bytes c.args.body) _ _ (slice_bytes c.in-Some.after) step c.requires.0, c.requires.1)

pub counts_of_values-values-preserved : goal.counts_of_values-values-preserved
counts_of_values-values-preserved t c =
    rw (c.and-held.ensures.values, c.and-held.ensures.levels)
    (values_step (slice_bytes c.args.body) _ _ (slice_bytes c.values.rest) c.values.invariant c.in-Some.value (slice_bytes c.in-Some.after) _ _ c.in-Some.ensures.more c.in-Some.ensures.inside c.counts_of_value.ensures)

pub counts_of_values-returns : goal.counts_of_values-returns
counts_of_values-returns t c = values_end (slice_bytes c.args.body) _ _ (slice_bytes c.values.rest) c.values.invariant c.in_default.ensures.value

-- ---- pairs

pub counts_of_pairs-pairs-init : goal.counts_of_pairs-pairs-init
counts_of_pairs-pairs-init t c = pairs_start (slice_bytes c.args.body) c.requires.0

pub counts_of_pairs-counts_of_value-requires : goal.counts_of_pairs-counts_of_value-requires
counts_of_pairs-counts_of_value-requires t c =
    let s = slice_bytes c.pairs.rest in
    let after = slice_bytes c.in-Some.after in
    let inside = c.in-Some.ensures.inside in (
      omega (arith, c.decreases, pair_shorter s c.in-Some.field-0-0.now c.in-Some.value after inside, c.pairs.invariant.shorter),
      content_few c.in-Some.value inside.0 after inside.2,
    )

pub counts_of_pairs-and-held-requires : goal.counts_of_pairs-and-held-requires
counts_of_pairs-and-held-requires t c =
    let step = pairs_step (slice_bytes c.args.body) _ _ (slice_bytes c.pairs.rest) c.pairs.invariant c.in-Some.field-0-0.now c.in-Some.value (slice_bytes c.in-Some.after) _ _ c.in-Some.ensures.more c.in-Some.ensures.inside c.counts_of_value.ensures in
    omega (arith, pairs_so_few (slice_bytes c.args.body) _ _ (slice_bytes c.in-Some.after) step c.requires.0, c.requires.1)

pub counts_of_pairs-pairs-preserved : goal.counts_of_pairs-pairs-preserved
counts_of_pairs-pairs-preserved t c =
    rw (c.and-held.ensures.values, c.and-held.ensures.levels)
    (pairs_step (slice_bytes c.args.body) _ _ (slice_bytes c.pairs.rest) c.pairs.invariant c.in-Some.field-0-0.now c.in-Some.value (slice_bytes c.in-Some.after) _ _ c.in-Some.ensures.more c.in-Some.ensures.inside c.counts_of_value.ensures)

pub counts_of_pairs-returns : goal.counts_of_pairs-returns
counts_of_pairs-returns t c = pairs_end (slice_bytes c.args.body) _ _ (slice_bytes c.pairs.rest) c.pairs.invariant c.in_default.ensures.pair
