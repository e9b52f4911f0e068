-- `values_left` and `pairs_left`: the bytes that the iterators `ArrayValues` and `TablePairs`
-- haven't passed yet.
use Rattle.std.specs.Prelude.{ℕ, List}
use Rattle.amqp_value_core.specs.Bytes.{slice_bytes}
use Rattle.amqp_in_place.specs.declared.iter.ArrayValues.{ArrayValues}
use Rattle.amqp_in_place.specs.declared.iter.TablePairs.{TablePairs}

abbrev pub values_left : ArrayValues → List ℕ
values_left s = slice_bytes s.values

abbrev pub pairs_left : TablePairs → List ℕ
pairs_left s = slice_bytes s.pairs
