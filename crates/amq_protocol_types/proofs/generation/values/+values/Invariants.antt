-- Of the loops in `gen_field_array` and `gen_field_table`: the encodings of the values or entries
-- so far were put after four reserved bytes.
use Rattle.std.proofs.Common.{◌≡◌, true, Ok, take, replicate, ◌++◌}
use Rattle.amqp_value_core.specs.Containers.{array_items, trees, table_entries}
use Rattle.amqp_value_core.specs.Texts.{body, AllFit}
use Rattle.amqp_value_core.specs.InMemory.{AreValues}
use Rattle.amq_protocol_types.specs.generation.BufferOutput.{IsConsistentOutput}
use Rattle.amq_protocol_types.specs.generation.Outputs.{Writes}
use Rattle.amq_protocol_types.specs.generation.Contexts.{start_of, state_of}
use Rattle.amq_protocol_types.proofs.Tables.{HasPutEntries}
use Rattle.amq_protocol_types.proofs.generation.values.+values.Given as goal

abbrev pub invariant-gen_field_array-loop-v : goal.invariant-gen_field_array-loop-v
invariant-gen_field_array-loop-v g l =
    let seen = g.W.Output.seen in
    let done = trees (take l.v-index l.v-items) in
    record {
      items : l.v-items ≡ array_items l.fn.a;
      whole : IsConsistentOutput (state_of seen l.fn.x);
      place : l.at ≡ (state_of seen l.fn.x).position;
      written : Writes true (AllFit done) (replicate 4 0 ++ body done) (state_of seen l.fn.x) (Ok tt) (state_of seen l.x);
      start : start_of l.x ≡ start_of l.fn.x;
      values : AreValues done;
    }

abbrev pub invariant-gen_field_table-loop-k : goal.invariant-gen_field_table-loop-k
invariant-gen_field_table-loop-k g l =
    let seen = g.W.Output.seen in
    record {
      whole : IsConsistentOutput (state_of seen l.fn.x);
      place : l.at ≡ (state_of seen l.fn.x).position;
      start : start_of l.x ≡ start_of l.fn.x;
      put : HasPutEntries (table_entries l.fn.t) l.k-iterator (state_of seen l.fn.x) (state_of seen l.x);
    }
