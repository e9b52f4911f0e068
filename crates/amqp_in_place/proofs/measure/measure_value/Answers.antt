-- `measure_value`: the value that is read is a view of the start of the bytes, so its measure is
-- that of the encoding there.
use Rattle.std.proofs.Common.{arith}
use Rattle.amqp_in_place.proofs.Measuring.{content_few, rest_dropped, measured_bytes}
use Rattle.amqp_in_place.proofs.measure.measure_value.Goals as goal

pub measure_of-requires : goal.measure_of-requires
measure_of-requires c = content_few c.in_ok-value.value c.args.bytes.now c.in_ok-value.rest.now c.in_ok-value.ensures.inside

pub returns-clause-within : goal.returns-clause-within
returns-clause-within c =
    let read = c.in_ok-value.ensures.within in
    (read.0, rw (rest_dropped c.args.bytes.now c.in_ok-value.rest.now c.in_ok-value.ensures.rest c.measure_of.result.bytes c.measure_of.ensures.bytes) read.2)

pub returns-clause-bytes : goal.returns-clause-bytes
returns-clause-bytes c = (
  omega (arith, c.measure_of.ensures.bytes),
  λ w left v p e. omega (arith, c.measure_of.ensures.bytes, measured_bytes c.args.bytes.now c.in_ok-value.rest.now c.in_ok-value.value c.in_ok-value.ensures.inside w left v p e),
)

pub returns-clause-values : goal.returns-clause-values
returns-clause-values c = c.measure_of.ensures.values c.args.bytes.now c.in_ok-value.rest.now c.in_ok-value.ensures.inside

pub returns-clause-levels : goal.returns-clause-levels
returns-clause-levels c = c.measure_of.ensures.levels c.args.bytes.now c.in_ok-value.rest.now c.in_ok-value.ensures.inside

pub returns-clause-tree : goal.returns-clause-tree
returns-clause-tree c = c.measure_of.ensures.tree c.args.bytes.now c.in_ok-value.rest.now c.in_ok-value.ensures.inside
