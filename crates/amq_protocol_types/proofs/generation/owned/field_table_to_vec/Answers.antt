-- `field_table_to_vec`: a table that was parsed fits, so only memory can be lacking.
use Rattle.std.proofs.Common.{rules}
use Rattle.amqp_value_core.specs.Containers.{table_view}
use Rattle.amq_protocol_types.proofs.Vectors.{parsed_table}
use Rattle.amq_protocol_types.proofs.generation.owned.field_table_to_vec.Goals as goal

pub returns-in-Err-clause-parsed : goal.returns-in-Err-clause-parsed
returns-in-Err-clause-parsed c = parsed_table (table_view c.args.t.now) c.length_error.result (search rules)
