-- `put_value`, `put_array` and `put_table` put the tokens of what is `written`, item by item and
-- pair by pair.
use Rattle.std.proofs.Common.{◌≡◌, ◌∷◌, [], List, ℕ, length, refl, ap, subst, rules, arith}
use Rattle.std.specs.Borrow.{Bor}
use Rattle.json.specs.Token.{begin_array, begin_object}
use Rattle.amqp_in_place.specs.declared.refs.ValueRef.{ValueRef}
use Rattle.amqp_in_place.specs.Refs.{array_body, table_body}
use Rattle.amqp_in_place.specs.Suffix.{values_left, pairs_left}
use Rattle.amqp_in_place.specs.Written.{WrittenValues, WrittenPairs}
use Rattle.amqp_json.proofs.AsWritten.{value_written, values_over, pair_written, pairs_over}
use Rattle.amqp_json.proofs.Printed.{item_put, items_end, pair_put, pairs_end, no_container, leaf_written, array_put, table_put, left_of, left_of_pair}
use Rattle.amqp_json.proofs.printing.walk.+walk.Goals as goal

-- ---- an array

pub put_array-loop-item-init : goal.put_array-loop-item-init
put_array-loop-item-init t c =
    let same : array_body c.args.array ≡ values_left c.into_iter-item-iterator.result = search rules in (
      omega (arith, ap length same),
      λ all body. (begin_array ∷ [], all, subst (λ (s : List ℕ). WrittenValues s all) same body, c.put_token-end.ensures, refl),
    )

pub put_array-loop-item-preserved : goal.put_array-loop-item-preserved
put_array-loop-item-preserved t c =
    let l = c.loop-item in
    let s = values_left l.item-iterator in
    let left = values_left c.next.new.self in
    let inside = c.in-Some.ensures.steps.1 in
    let less = left_of c.in-Some.item s left inside in (
      omega (arith, less, l.invariant.0),
      λ all body.
          let at = l.invariant.1 all body in
          item_put _ _ _ _ _ _ at.0 _ at.1 c.in-Some.item left (value_written s c.in-Some.item left inside less at.1 at.2) at.3 c.put_value-end.ensures at.4,
    )

pub put_array-returns : goal.put_array-returns
put_array-returns t c = λ ts body.
    let l = c.loop-item in
    let at = l.invariant.1 ts body in
    items_end _ _ _ _ _ _ at.0 _ at.1 (values_over (values_left l.item-iterator) (values_left c.next.new.self) at.1 at.2 c.in-None.ensures.steps.0) at.3 c.put_token.ensures at.4

-- ---- the pairs of a table

pub put_table-loop-key-init : goal.put_table-loop-key-init
put_table-loop-key-init t c =
    let same : table_body c.args.table ≡ pairs_left c.into_iter-key-iterator.result = search rules in (
      omega (arith, ap length same),
      λ all body. (begin_object ∷ [], all, subst (λ (s : List ℕ). WrittenPairs s all) same body, c.put_token-end.ensures, refl),
    )

pub put_table-loop-key-preserved : goal.put_table-loop-key-preserved
put_table-loop-key-preserved t c =
    let l = c.loop-key in
    let x : Bor (List ℕ) × ValueRef = (c.in-Some.key, c.in-Some.value) in
    let s = pairs_left l.key-iterator in
    let left = pairs_left c.next.new.self in
    let inside = c.in-Some.ensures.steps.1 in (
      omega (arith, left_of_pair s c.in-Some.key.now left c.in-Some.value inside, l.invariant.0),
      λ all body.
          let at = l.invariant.1 all body in
          pair_put _ _ _ _ _ _ _ _ at.0 _ at.1 x left (pair_written s x left inside at.1 at.2) at.3 c.put_key-keyed.ensures c.put_value-end.ensures at.4,
    )

pub put_table-returns : goal.put_table-returns
put_table-returns t c = λ ps body.
    let l = c.loop-key in
    let at = l.invariant.1 ps body in
    pairs_end _ _ _ _ _ _ at.0 _ at.1 (pairs_over (pairs_left l.key-iterator) (pairs_left c.next.new.self) at.1 at.2 c.in-None.ensures.steps.0) at.3 c.put_token.ensures at.4

-- ---- a value

pub put_value-returns-in-FieldArray : goal.put_value-returns-in-FieldArray
put_value-returns-in-FieldArray t c = array_put _ _ _ _ c.args.value c.in-FieldArray.array c.in-FieldArray.is c.put_array.ensures

pub put_value-returns-in-FieldTable : goal.put_value-returns-in-FieldTable
put_value-returns-in-FieldTable t c = table_put _ _ _ _ c.args.value c.in-FieldTable.table c.in-FieldTable.is c.put_table.ensures

pub put_value-put_leaf-requires : goal.put_value-put_leaf-requires
put_value-put_leaf-requires t c = no_container c.args.value c.in_default.not-FieldArray c.in_default.not-FieldTable

pub put_value-returns-in_default : goal.put_value-returns-in_default
put_value-returns-in_default t c = λ u is. c.put_leaf.ensures u (leaf_written c.args.value u (no_container c.args.value c.in_default.not-FieldArray c.in_default.not-FieldTable) is)
