-- `to_vec`: the errors that are left of those of `gen_value`, since a vector has no other.
use Rattle.amqp_value_core.specs.View.{view}
use Rattle.amq_protocol_types.proofs.Vectors.{not_encoded, parsed_value}
use Rattle.amq_protocol_types.specs.generation.Contexts.{output_of}
use Rattle.amq_protocol_types.proofs.generation.owned.to_vec.Goals as goal

pub returns-in-Err-clause-err : goal.returns-in-Err-clause-err
returns-in-Err-clause-err c =
    not_encoded (output_of c.from-context.result) (output_of c.gen_value.new.x) c.in-Err.error c.vector_error.result c.in-Err.ensures.written (λ fits. fits) c.vector_error.ensures.other c.vector_error.ensures.offset

pub returns-in-Err-clause-parsed : goal.returns-in-Err-clause-parsed
returns-in-Err-clause-parsed c =
    parsed_value (view c.args.value.now) c.vector_error.result (returns-in-Err-clause-err c)
