-- `gen_value`: `write_value` wrote the canonical encoding, which is shortest, unique, and read back
-- as the value. So it fits in as many bytes as the value was read from.
use Rattle.amqp_value_core.specs.View.{view}
use Rattle.amqp_value_core.proofs.GrammarLaws.{is_shortest, injective}
use Rattle.amq_protocol_types.proofs.ReadBack.{written, writes_what_was_read}
use Rattle.amq_protocol_types.proofs.Steps.{lengths_of}
use Rattle.amq_protocol_types.proofs.generation.values.gen_value.Goals as goal

pub returns-clause-fits_input_size : goal.returns-clause-fits_input_size
returns-clause-fits_input_size g c = writes_what_was_read c.write_value.ensures.written

pub returns-clause-encoding : goal.returns-clause-encoding
returns-clause-encoding g c = record {
  shortest = is_shortest (view c.args.v.now);
  injective = injective (view c.args.v.now);
}

pub returns-clause-ok : goal.returns-clause-ok
returns-clause-ok g c =
    written (view c.args.v.now) c.write_value.result c.write_value.ensures.value (lengths_of c.write_value.result c.write_value.ensures.written)
