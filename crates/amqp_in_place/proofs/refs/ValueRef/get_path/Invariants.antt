-- Of the loop in `ValueRef::get_path`: the rest of the path leads from `at` to what the whole path
-- leads to.
use Rattle.std.proofs.Common.{◌≡◌, ◌<◌, drop}
use Rattle.amqp_in_place.specs.declared.path.EqualKeys.TheVariants as equal
use Rattle.amqp_in_place.specs.Refs.{Denotes}
use Rattle.amqp_in_place.specs.Written.{IsWrittenAs}
use Rattle.amqp_in_place.specs.Places.{IsViewWithin}
use Rattle.amqp_in_place.specs.Lookups.{content}
use Rattle.amqp_in_place.proofs.Paths.{PathLeadsTo, PathLeadsToView}
use Rattle.amqp_in_place.proofs.refs.ValueRef.get_path.Given as goal

abbrev pub invariant-loop-step : goal.invariant-loop-step
invariant-loop-step l = record {
  written : PathLeadsTo IsWrittenAs l.fn.of_equal l.fn.path (drop l.step-index l.fn.path) l.fn.self l.at;
  last : l.fn.of_equal ≡ equal.Last → PathLeadsTo Denotes l.fn.of_equal l.fn.path (drop l.step-index l.fn.path) l.fn.self l.at;
  start : l.step-index ≡ 0 → l.at ≡ l.fn.self;
  inside : 0 < l.step-index → IsViewWithin (content l.fn.self) l.at;
  view : PathLeadsToView l.fn.of_equal l.fn.path (drop l.step-index l.fn.path) l.fn.self l.at;
}
