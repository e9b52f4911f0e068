-- Of the loop in `place_of_index`: the value at `index` in `values` is at `before` in `left`.
use Rattle.std.proofs.Common.{ℕ, List, Option, length}
use Rattle.amqp_in_place.specs.InPlaceResults.{IsLeft}
use Rattle.amqp_in_place.specs.Searches.{HasNth}
use Rattle.amqp_in_place.proofs.search.place_of_index.Given as goal

-- the value at the index is the one that `before` others are before in what is left
abbrev pub invariant-values : goal.invariant-values
invariant-values l = record {
  ends : IsLeft l.fn.values l.left;
  to : (w : Option (List ℕ)) → HasNth l.index l.fn.values w → HasNth l.before l.left w;
  from : (w : Option (List ℕ)) → HasNth l.before l.left w → HasNth l.index l.fn.values w;
}

abbrev pub decreases-values : goal.decreases-values
decreases-values l = length l.left
