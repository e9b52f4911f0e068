-- Of the loops in `same_items` and `same_pairs`: both sides are equal exactly if what is left of
-- them is, and as many entries of one map have gone as of the other.
use Rattle.std.proofs.Common.{◌≡◌, ◌+◌, length, drop}
use Rattle.amqp_value_core.specs.Containers.{trees, entries}
use Rattle.amqp_value_core.specs.Equality.{same_trees, same_entries}
use Rattle.amqp_value_core.proofs.equality.+same.Given as goal

-- what is left decides
abbrev pub invariant-same_items-loop-x : goal.invariant-same_items-loop-x
invariant-same_items-loop-x l =
    same_trees (trees (drop (length l.yielded) l.a)) (trees (drop (length l.yielded) l.b)) ≡ same_trees (trees l.a) (trees l.b)

-- what is left decides, and as many entries were taken of both
abbrev pub invariant-same_pairs-loop-j : goal.invariant-same_pairs-loop-j
invariant-same_pairs-loop-j l = record {
  decides : same_entries (entries l.j-iterator.a) (entries l.j-iterator.b) ≡ same_entries (entries l.m.entries) (entries l.n.entries);
  as_many : length l.j-iterator.a + length l.n.entries ≡ length l.j-iterator.b + length l.m.entries;
}
