-- Writing values, arrays, tables and entries (the cycle `values`): the parts put one after another
-- are the canonical encoding, and after an error those before it were taken back.
use Rattle.std.proofs.Common.{◌++◌, refl, ◌∙◌, arith}
use Rattle.amqp_value_core.specs.View.{view}
use Rattle.amqp_value_core.specs.Grammar.{short_field}
use Rattle.amqp_value_core.specs.Texts.{text, Fits}
use Rattle.amq_protocol_types.proofs.Arrays.{values_next, value_refused, array_closed, array_value, text_of, longer_by_id, body_next, fit_next}
use Rattle.amq_protocol_types.proofs.Tables.{none_put, one_more_put, key_then, key_taken_back, entry_refused, table_closed, table_value}
use Rattle.amq_protocol_types.proofs.Steps.{lengths_of, both_put, refused, by_buffer}
use Rattle.amq_protocol_types.proofs.ReadBack.{writes_payload_read, array_read_back, table_read_back, array_canonical, table_canonical}
use Rattle.amqp_value_core.specs.Containers.{array_items, array_view, table_view}
use Rattle.amq_protocol_types.proofs.generation.values.+values.Goals as goal

pub write_value-returns-clause-written : goal.write_value-returns-clause-written
write_value-returns-clause-written g t c =
    let v = view c.args.v.now in
    both_put (Fits v) (text v) (text_of v _ c.get_type.ensures) (λ _ fit. fit) (by_buffer g.met.W.BackToTheBuffer.is_one c.in_ok-gen_type.ensures.put.written) c.in_default.ensures.written

pub write_value-returns-in-Err-clause-written : goal.write_value-returns-in-Err-clause-written
write_value-returns-in-Err-clause-written g t c =
    let v = view c.args.v.now in
    refused (Fits v) (text v) _ c.at-at.ensures.at c.at-at.ensures.whole (longer_by_id v) (λ fit. fit) (by_buffer g.met.W.BackToTheBuffer.is_one c.in_ok-gen_type.ensures.put.written) c.in-Err.ensures.written c.back_to.ensures.back

pub gen_entry-returns-clause-written : goal.gen_entry-returns-clause-written
gen_entry-returns-clause-written g t c =
    let v = view c.args.v.now in
    both_put (Fits v) (short_field c.args.k.now ++ text v) (key_then _ _ v _ c.as_str.ensures.text refl) (λ _ fit. fit) c.in_ok-gen_key.ensures.written c.in_default.ensures.written

pub gen_field_array-loop-v-preserved : goal.gen_field_array-loop-v-preserved
gen_field_array-loop-v-preserved g t c =
    let vs = c.as_slice-v-items.result.now in
    let k = c.loop-v.v-index in
    let v = c.v-item.result in
    let known = c.loop-v.invariant in
    record {
      items = known.items;
      whole = known.whole;
      place = known.place;
      written = both_put _ _ (body_next vs k v c.loop-v-test.true c.v-item.is) (fit_next vs k v c.loop-v-test.true c.v-item.is) known.written c.in_default.ensures.written;
      start = c.in_default.ensures.start ∙ known.start;
      values = values_next vs k v c.loop-v-test.true c.v-item.is known.values c.in_default.ensures.value;
    }

pub gen_field_array-returns-in-Err-clause-written : goal.gen_field_array-returns-in-Err-clause-written
gen_field_array-returns-in-Err-clause-written g t c =
    let known = c.loop-v.invariant in
    value_refused c.as_slice-v-items.result.now (array_items c.args.a.now) c.loop-v.v-index c.v-item.result c.in_ok-at.at known.items c.loop-v-test.true c.v-item.is known.place known.whole known.written c.in-Err.ensures.written c.back_to.ensures.back

pub gen_field_array-returns-clause-written : goal.gen_field_array-returns-clause-written
gen_field_array-returns-clause-written g t c =
    let known = c.loop-v.invariant in
    array_closed c.as_slice-v-items.result.now (array_items c.args.a.now) c.loop-v.v-index c.in_ok-at.at c.fill_length.result known.items (omega arith) known.place known.whole known.written c.fill_length.ensures.filled

pub gen_entry-returns-in-Err-clause-written : goal.gen_entry-returns-in-Err-clause-written
gen_entry-returns-in-Err-clause-written g t c =
    key_taken_back c.args.k.now c.as_str.result.now (view c.args.v.now) _ c.at-at.result c.as_str.ensures.text refl c.at-at.ensures.at c.at-at.ensures.whole c.in_ok-gen_key.ensures.written c.in-Err.ensures.written c.back_to.ensures.back

pub gen_field_table-loop-k-init : goal.gen_field_table-loop-k-init
gen_field_table-loop-k-init g t c = record {
  whole = c.in_ok-at.ensures.whole;
  place = c.in_ok-at.ensures.place;
  start = c.in_ok-at.ensures.start;
  put = none_put _ _ (c.into_iter-k-iterator.ensures.into_iter_gives ∙ c.iter-k-items.ensures.rest ∙ c.inner.ensures) c.in_ok-at.ensures.written;
}

pub gen_field_table-loop-k-preserved : goal.gen_field_table-loop-k-preserved
gen_field_table-loop-k-preserved g t c =
    let known = c.loop-k.invariant in
    let k = c.in-Some.k.now in
    let v = c.in-Some.v.now in
    record {
      whole = known.whole;
      place = known.place;
      start = c.in_default.ensures.start ∙ known.start;
      put = one_more_put k v c.in-Some.ensures.steps c.in_default.ensures.key c.in_default.ensures.value known.put c.in_default.ensures.written;
    }

pub gen_field_table-returns-in-Err-clause-written : goal.gen_field_table-returns-in-Err-clause-written
gen_field_table-returns-in-Err-clause-written g t c =
    let known = c.loop-k.invariant in
    entry_refused c.in-Some.k.now c.in-Some.v.now c.in_ok-at.at c.in-Some.ensures.steps known.place known.whole known.put c.in-Err.ensures.written c.back_to.ensures.back

pub gen_field_table-returns-clause-written : goal.gen_field_table-returns-clause-written
gen_field_table-returns-clause-written g t c =
    let known = c.loop-k.invariant in
    table_closed c.in_ok-at.at c.fill_length.result c.in-None.ensures.steps.0 known.place known.whole known.put c.fill_length.ensures.filled

pub gen_field_table-returns-clause-value : goal.gen_field_table-returns-clause-value
gen_field_table-returns-clause-value g t c =
    table_value c.fill_length.result c.in-None.ensures.steps.0 c.inner.ensures c.iter-k-items.ensures.ordered c.loop-k.invariant.put

pub gen_field_array-returns-in-Err-clause-fits_input_size : goal.gen_field_array-returns-in-Err-clause-fits_input_size
gen_field_array-returns-in-Err-clause-fits_input_size g t c = writes_payload_read (λ e. cc) (gen_field_array-returns-in-Err-clause-written g t c)

pub gen_field_array-returns-clause-fits_input_size : goal.gen_field_array-returns-clause-fits_input_size
gen_field_array-returns-clause-fits_input_size g t c = writes_payload_read (λ e. cc) (gen_field_array-returns-clause-written g t c)

pub gen_field_table-returns-in-Err-clause-fits_input_size : goal.gen_field_table-returns-in-Err-clause-fits_input_size
gen_field_table-returns-in-Err-clause-fits_input_size g t c = writes_payload_read (λ e. cc) (gen_field_table-returns-in-Err-clause-written g t c)

pub gen_field_table-returns-clause-fits_input_size : goal.gen_field_table-returns-clause-fits_input_size
gen_field_table-returns-clause-fits_input_size g t c = writes_payload_read (λ e. cc) (gen_field_table-returns-clause-written g t c)

pub gen_field_array-returns-clause-value : goal.gen_field_array-returns-clause-value
gen_field_array-returns-clause-value g t c =
    array_value c.as_slice-v-items.result.now (array_items c.args.a.now) c.loop-v.v-index c.fill_length.result c.loop-v.invariant.items (omega arith) c.loop-v.invariant.values

pub gen_field_array-returns-clause-read_back : goal.gen_field_array-returns-clause-read_back
gen_field_array-returns-clause-read_back g t c =
    array_read_back (array_view c.args.a.now) c.fill_length.result (gen_field_array-returns-clause-value g t c) (lengths_of c.fill_length.result (gen_field_array-returns-clause-written g t c))

pub gen_field_table-returns-clause-read_back : goal.gen_field_table-returns-clause-read_back
gen_field_table-returns-clause-read_back g t c =
    table_read_back (table_view c.args.t.now) c.fill_length.result (gen_field_table-returns-clause-value g t c) (lengths_of c.fill_length.result (gen_field_table-returns-clause-written g t c))

pub gen_field_array-returns-clause-canonical : goal.gen_field_array-returns-clause-canonical
gen_field_array-returns-clause-canonical g t c =
    array_canonical (array_view c.args.a.now) c.fill_length.result (gen_field_array-returns-clause-value g t c) (lengths_of c.fill_length.result (gen_field_array-returns-clause-written g t c))

pub gen_field_table-returns-clause-canonical : goal.gen_field_table-returns-clause-canonical
gen_field_table-returns-clause-canonical g t c =
    table_canonical (table_view c.args.t.now) c.fill_length.result (gen_field_table-returns-clause-value g t c) (lengths_of c.fill_length.result (gen_field_table-returns-clause-written g t c))
