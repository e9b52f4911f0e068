-- `tagged_field_table_to_vec`: the type tag and the payload are the canonical encoding.
use Rattle.std.proofs.Common.{rules, Ok}
use Rattle.amqp_value_core.specs.Values.{Tree, table}
use Rattle.amqp_value_core.specs.Containers.{table_view}
use Rattle.amqp_value_core.proofs.GrammarLaws.{is_shortest, injective}
use Rattle.amq_protocol_types.specs.generation.Written.{IsShortestAndUnique}
use Rattle.amq_protocol_types.proofs.ReadBack.{written}
use Rattle.amq_protocol_types.proofs.Vectors.{parsed_value}
use Rattle.amq_protocol_types.proofs.generation.owned.tagged_field_table_to_vec.Goals as goal

encoding_of : (v : Tree) → IsShortestAndUnique v
encoding_of v = record { shortest = is_shortest v; injective = injective v }

pub returns-in_err-gen_type-clause-encoding : goal.returns-in_err-gen_type-clause-encoding
returns-in_err-gen_type-clause-encoding c = encoding_of (table (table_view c.args.t.now))

pub returns-in-Ok-clause-encoding : goal.returns-in-Ok-clause-encoding
returns-in-Ok-clause-encoding c = encoding_of (table (table_view c.args.t.now))

pub returns-in-Err-clause-encoding : goal.returns-in-Err-clause-encoding
returns-in-Err-clause-encoding c = encoding_of (table (table_view c.args.t.now))

pub returns-in-Ok-clause-ok : goal.returns-in-Ok-clause-ok
returns-in-Ok-clause-ok c = written (table (table_view c.args.t.now)) (Ok tt) c.in-Ok.ensures.value c.in-Ok.ensures.written.wrote.fits

pub returns-in-Err-clause-parsed : goal.returns-in-Err-clause-parsed
returns-in-Err-clause-parsed c = parsed_value (table (table_view c.args.t.now)) c.length_error.result (search rules)
