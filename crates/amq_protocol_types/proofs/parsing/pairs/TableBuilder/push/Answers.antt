-- `TableBuilder::push`: appending to the pairs collected has the effect of inserting into the table
-- that they make.
use Rattle.std.proofs.Common.{arith}
use Rattle.amq_protocol_types.proofs.TableBodies.{one_more}
use Rattle.amq_protocol_types.proofs.parsing.pairs.TableBuilder.push.Goals as goal

pub returns-in_ok-push-in-Many : goal.returns-in_ok-push-in-Many
returns-in_ok-push-in-Many c = grind (arith, one_more)
