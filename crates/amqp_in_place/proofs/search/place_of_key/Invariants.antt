-- Of the loop in `place_of_key`: `at` is where the value of the last pair with the key begins, among
-- those before `left` (`SearchedTo`).
use Rattle.std.proofs.Common.{length}
use Rattle.amqp_in_place.proofs.Searches.{SearchedTo}
use Rattle.amqp_in_place.proofs.search.place_of_key.Given as goal

-- what was seen is determined by the pairs before those that are left
abbrev pub invariant-pairs : goal.invariant-pairs
invariant-pairs l = SearchedTo l.first_key l.key l.fn.pairs l.left l.at

abbrev pub decreases-pairs : goal.decreases-pairs
decreases-pairs l = length l.left
