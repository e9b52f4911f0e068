-- `run_stream`: each stream begins with some values, if only zero, and its lines are theirs.
use Rattle.amqp_wire.proofs.Streams.{has_lines}
use Rattle.amqp_wire.proofs.stream.run_stream.Goals as goal

pub returns-clause-values : goal.returns-clause-values
returns-clause-values g c = has_lines c.args.limits c.args.most
