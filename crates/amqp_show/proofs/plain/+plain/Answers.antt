-- `write_value`, `write_array` and `write_table` write plain JSON, item by item and pair by pair.
use Rattle.std.proofs.Common.{◌≡◌, ◌∙◌, List, ℕ, length, ap, subst, rules, arith}
use Rattle.std.proofs.lemmas.Result.{on_ok_weaker}
use Rattle.std.specs.Borrow.{Bor}
use Rattle.amqp_in_place.specs.declared.refs.ValueRef.{ValueRef}
use Rattle.amqp_in_place.specs.Refs.{array_body, table_body}
use Rattle.amqp_in_place.specs.Suffix.{values_left, pairs_left}
use Rattle.amqp_in_place.specs.Written.{WrittenValues, WrittenPairs}
use Rattle.amqp_json.proofs.AsWritten.{value_written, values_over, pair_written, pairs_over}
use Rattle.amqp_json.proofs.Printed.{no_container, left_of, left_of_pair}
use Rattle.amqp_show.proofs.WritingPlain.{array_begun, item_written, array_ended, array_written, table_begun, pair_written as member_written, table_ended, table_written}
use Rattle.amqp_show.proofs.plain.+plain.Goals as goal

-- ---- an array

pub write_array-loop-item-init : goal.write_array-loop-item-init
write_array-loop-item-init t c =
    let same : array_body c.args.array ≡ values_left c.into_iter-item-iterator.result = search rules in (
      omega (arith, ap length same),
      c.begin_array.ensures.room.0,
      λ all body. (all, subst (λ (s : List ℕ). WrittenValues s all) same body, array_begun all _ _ c.in_ok-begin_array.ensures.ok),
    )

pub write_array-loop-item-preserved : goal.write_array-loop-item-preserved
write_array-loop-item-preserved t c =
    let l = c.loop-item in
    let s = values_left l.item-iterator in
    let left = values_left c.next.new.self in
    let inside = c.in-Some.ensures.steps.1 in
    let less = left_of c.in-Some.item s left inside in (
      omega (arith, less, l.invariant.0),
      c.in_ok-write_value.ensures.before ∙ l.invariant.1,
      λ all body.
          let at = l.invariant.2 all body in
          item_written all at.0 _ _ _ c.in-Some.item left (value_written s c.in-Some.item left inside less at.0 at.1) c.in_ok-write_value.ensures.plain at.2,
    )

pub write_array-returns : goal.write_array-returns
write_array-returns t c =
    let l = c.loop-item in
    record {
      plain = on_ok_weaker c.end_array.result
          (λ e all body.
          let at = l.invariant.2 all body in
          array_ended all at.0 _ _ _ (values_over (values_left l.item-iterator) (values_left c.next.new.self) at.0 at.1 c.in-None.ensures.steps.0) e at.2)
          c.end_array.ensures.ok;
      before = c.end_array.ensures.room.0 ∙ l.invariant.1;
    }

-- ---- the pairs of a table

pub write_table-loop-key-init : goal.write_table-loop-key-init
write_table-loop-key-init t c =
    let same : table_body c.args.table ≡ pairs_left c.into_iter-key-iterator.result = search rules in (
      omega (arith, ap length same),
      c.begin_object.ensures.room.0,
      λ all body. (all, subst (λ (s : List ℕ). WrittenPairs s all) same body, table_begun all _ _ c.in_ok-begin_object.ensures.ok),
    )

pub write_table-loop-key-preserved : goal.write_table-loop-key-preserved
write_table-loop-key-preserved t c =
    let l = c.loop-key in
    let x : Bor (List ℕ) × ValueRef = (c.in-Some.key, c.in-Some.value) in
    let s = pairs_left l.key-iterator in
    let left = pairs_left c.next.new.self in
    let inside = c.in-Some.ensures.steps.1 in (
      omega (arith, left_of_pair s c.in-Some.key.now left c.in-Some.value inside, l.invariant.0),
      c.in_ok-write_value.ensures.before ∙ (c.in_ok-key.ensures.room.0 ∙ l.invariant.1),
      λ all body.
          let at = l.invariant.2 all body in
          member_written all at.0 _ _ _ _ x left (pair_written s x left inside at.0 at.1) c.in_ok-key.ensures.ok c.in_ok-write_value.ensures.plain at.2,
    )

pub write_table-returns : goal.write_table-returns
write_table-returns t c =
    let l = c.loop-key in
    record {
      plain = on_ok_weaker c.end_object.result
          (λ e all body.
          let at = l.invariant.2 all body in
          table_ended all at.0 _ _ _ (pairs_over (pairs_left l.key-iterator) (pairs_left c.next.new.self) at.0 at.1 c.in-None.ensures.steps.0) e at.2)
          c.end_object.ensures.ok;
      before = c.end_object.ensures.room.0 ∙ l.invariant.1;
    }

-- ---- a value

pub write_value-returns-in-FieldArray : goal.write_value-returns-in-FieldArray
write_value-returns-in-FieldArray t c = record { plain = on_ok_weaker c.write_array.result (array_written c.args.value c.in-FieldArray.array _ _ c.in-FieldArray.is) c.write_array.ensures.plain; before = c.write_array.ensures.before }

pub write_value-returns-in-FieldTable : goal.write_value-returns-in-FieldTable
write_value-returns-in-FieldTable t c = record { plain = on_ok_weaker c.write_table.result (table_written c.args.value c.in-FieldTable.table _ _ c.in-FieldTable.is) c.write_table.ensures.plain; before = c.write_table.ensures.before }

pub write_value-write_leaf-requires : goal.write_value-write_leaf-requires
write_value-write_leaf-requires t c = no_container c.args.value c.in_default.not-FieldArray c.in_default.not-FieldTable
