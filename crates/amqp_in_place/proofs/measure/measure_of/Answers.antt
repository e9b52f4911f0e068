-- `measure_of`: the counts of a value are those of each encoding that it is a view of, and its tree
-- has no more values or levels.
use Rattle.amqp_in_place.proofs.Measuring.{measured_values, measured_levels, measured_tree}
use Rattle.amqp_in_place.proofs.measure.measure_of.Goals as goal

pub returns-clause-values : goal.returns-clause-values
returns-clause-values c = measured_values c.args.value _ _ c.counts_of_value-held.ensures

pub returns-clause-levels : goal.returns-clause-levels
returns-clause-levels c = measured_levels c.args.value _ _ c.counts_of_value-held.ensures

pub returns-clause-tree : goal.returns-clause-tree
returns-clause-tree c = measured_tree c.args.value _ _ c.counts_of_value-held.ensures
