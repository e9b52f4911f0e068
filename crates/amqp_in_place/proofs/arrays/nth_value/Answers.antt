-- `nth_value`: the value at the position is among those left (`IsAmongLeft`), and is the first of
-- them once no more are to be skipped.
use Rattle.std.proofs.Common.{rules, ◌≡◌, ◌-◌, suc, subst, arith}
use Rattle.amqp_value_core.specs.Bytes.{slice_bytes}
use Rattle.amqp_in_place.proofs.Lookups.{IsAmongLeft, among-start, among-step, among-here, among-end}
use Rattle.amqp_in_place.proofs.Places.{nothing_before, value_left}
use Rattle.amqp_in_place.proofs.arrays.nth_value.Goals as goal

pub values-init : goal.values-init
values-init c = record { values = c.requires; among = among-start c.args.index (slice_bytes c.args.values); left = nothing_before (slice_bytes c.args.values) }

pub values-preserved : goal.values-preserved
values-preserved c =
    let s = slice_bytes c.args.values in
    let rest = slice_bytes c.values.rest in
    let x = c.in-Some in
    let one : c.values.left ≡ suc (c.values.left - 1) = omega (arith, c.if-left-eq0.false) in
    record {
      values = search rules;
      among = among-step c.args.index s rest (c.values.left - 1) x.value (slice_bytes x.after) (subst (IsAmongLeft c.args.index s rest) one c.values.invariant.among) x.ensures.inside x.ensures.more.0;
      left = value_left s rest (slice_bytes x.after) x.value c.values.invariant.left x.ensures.inside;
    }

pub returns-then-left-eq0-clause-found : goal.returns-then-left-eq0-clause-found
returns-then-left-eq0-clause-found c =
    let s = slice_bytes c.args.values in
    let rest = slice_bytes c.values.rest in
    let x = c.in-Some in
    among-here c.args.index s rest x.value (slice_bytes x.after) (subst (IsAmongLeft c.args.index s rest) c.if-left-eq0.true c.values.invariant.among) x.ensures.inside x.ensures.more.0

pub returns-clause-found : goal.returns-clause-found
returns-clause-found c = among-end c.args.index (slice_bytes c.args.values) (slice_bytes c.values.rest) c.values.left c.values.invariant.among c.in_default.ensures.value
