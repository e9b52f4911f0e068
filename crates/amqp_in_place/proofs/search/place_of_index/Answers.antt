-- `place_of_index` returns where the value at the index begins: each step of the loop passes one
-- value, and one fewer is before the one that is meant.
use Rattle.std.proofs.Common.{◌≡◌, ◌<◌, length, None, arith}
use Rattle.std.proofs.lemmas.Grind.{common_steps}
use Rattle.amqp_in_place.proofs.Places.{nothing_before}
use Rattle.amqp_in_place.proofs.Searches.{left_after, nth_headed, nth_after, nth_before, nth_here, nth_none}
use Rattle.amqp_in_place.proofs.search.place_of_index.Goals as goal

pub values-init : goal.values-init
values-init c = record { ends = nothing_before c.args.values.now; to = λ w x. x; from = λ w x. x }

pub returns-in_default : goal.returns-in_default
returns-in_default c =
    let left = c.values.left.now in
    let some : 0 < length left = grind (arith, common_steps) in
    λ w x. c.in_default.ensures (nth_headed c.values.before left w some (c.values.invariant.to w x))

pub values-preserved : goal.values-preserved
values-preserved c =
    let left = c.values.left.now in
    let before = c.values.before in
    let i = c.values.invariant in
    let rest = c.in-Some.later.now in
    let is = c.in-Some.ensures in
    let some : 0 < length left = grind (arith, common_steps) in
    let more : 0 < before = grind (arith, common_steps) in record {
      ends = left_after c.args.values.now left rest i.ends is.0;
      to = λ w x. nth_after before left rest w more some is.0 (i.to w x);
      from = λ w x. i.from w (nth_before before left rest w more is.1 is.0 x);
    }

pub returns-then-is_empty : goal.returns-then-is_empty
returns-then-is_empty c =
    let none : length c.values.left.now ≡ 0 = grind (arith, common_steps) in
    c.values.invariant.from None (nth_none c.values.before c.values.left.now none)

pub returns : goal.returns
returns c =
    let left = c.values.left.now in
    let i = c.values.invariant in
    let some : 0 < length left = grind (arith, common_steps) in
    let none : c.values.before ≡ 0 = grind (arith, common_steps) in record {
      left = i.ends;
      meant = λ whole. i.from _ (nth_here c.values.before left none whole);
      only = λ w x. nth_headed c.values.before left w some (i.to w x);
    }
