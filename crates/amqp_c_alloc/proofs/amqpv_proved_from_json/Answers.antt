-- `amqpv_proved_from_json` returns and stores what `put_encoding` gives: the clauses of the functions that
-- it calls are all that `PutsOrRejects` asks.
use Rattle.std.proofs.Common.{rules}
use Rattle.amqp_c_alloc.proofs.amqpv_proved_from_json.Goals as goal

pub returns : goal.returns
returns c =
    let put = c.put_encoding-put in
    record {
      done = put.result.done;
      found = put.result.problem;
      returned = search rules;
      counted = c.return_length.ensures.length;
      stored = c.store_problem.ensures;
      written = put.ensures.written;
      inside = put.ensures.inside;
      kept = put.ensures.kept;
    }
