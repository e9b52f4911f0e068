-- `Values::next_from` returns the outcome of what came, which is that of all that the reader held.
-- After a failure for good it changes nothing.
use Rattle.std.proofs.Common.{rules}
use Rattle.amq_protocol_types.proofs.ParsingLaws.{kept_within}
use Rattle.amq_protocol_types.specs.stream.Sources.SourceReaches.{here}
use Rattle.amq_protocol_types.proofs.ReaderOutcomes.{outcome_of_all}
use Rattle.amq_protocol_types.proofs.stream.values.Values.next_from.Goals as goal

pub returns : goal.returns
returns g c = record {
  outcome = search rules;
  outcome_of_all = λ _. outcome_of_all g.R.Source c.args.self.now c.args.reader.now c.read_value.result c.read_value.new.self c.read_value.new.reader c.read_value.ensures.outcome;
  kind = search rules;
  failed = search rules;
  limits = search rules;
  bounded = search (rules, kept_within);
  waiting = search rules;
}

pub returns-then-self : goal.returns-then-self
returns-then-self g c = record {
  outcome = search rules;
  outcome_of_all = search rules;
  kind = here c.args.reader.now;
  failed = search rules;
  limits = search rules;
  bounded = search (rules, kept_within);
  waiting = search rules;
}
