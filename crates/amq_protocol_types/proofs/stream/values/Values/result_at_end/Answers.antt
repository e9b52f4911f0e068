-- `Values::result_at_end`: bytes are retained and more are wanted, so the value is truncated.
use Rattle.std.proofs.Common.{rules}
use Rattle.amqp_value_core.specs.Nesting.{WireWithin}
use Rattle.amq_protocol_types.specs.parsing.Headers.{wanted}
use Rattle.amq_protocol_types.specs.stream.Readers.{kept}
use Rattle.amq_protocol_types.proofs.ParsingLaws.{more_wanted}
use Rattle.amq_protocol_types.proofs.stream.values.Values.result_at_end.Goals as goal

pub returns-clause-outcome : goal.returns-clause-outcome
returns-clause-outcome c = λ left end.
    let s = kept c.args.self.now in
    (search rules, (wanted s, (c.requires.within, more_wanted (WireWithin c.args.self.now.limits.depth) s c.requires.wants)), search rules, end)
