-- `by_the_grammar`: each outcome is the one that `compute_outcome` returns, which the grammar has
-- too.
use Rattle.std.proofs.Common.{rules}
use Rattle.std.specs.Str.{is_utf8, chars}
use lib.Utf8.{encode}
use Rattle.amqp_value_core.specs.declared.types.amqp_type.AMQPType.TheVariants as amqp
use Rattle.amqp_value_core.specs.Decode.{hex}
use Rattle.amqp_value_core.proofs.GrammarLaws.{outcome_holds, raw_outcome_holds}
use Rattle.test_codec.proofs.worked.encodings.by_the_grammar.Goals as goal

pub returns-clause-array : goal.returns-clause-array
returns-clause-array c = outcome_holds (hex "'A' 00000003 't' 07 'V'") (search rules)

pub returns-clause-table : goal.returns-clause-table
unfolding is_utf8 chars encode
returns-clause-table c = outcome_holds (hex "'F' 00000008 01 'a' 't' 01 01 'a' 't' 00") (search rules)

pub returns-clause-refused : goal.returns-clause-refused
returns-clause-refused c = outcome_holds (hex "'A' 00000001 'z'") (search rules)

pub returns-clause-refused_key : goal.returns-clause-refused_key
unfolding is_utf8 chars encode
returns-clause-refused_key c = outcome_holds (hex "'F' 00000003 01 ff 'V'") (search rules)

pub returns-clause-refused_text : goal.returns-clause-refused_text
unfolding is_utf8 chars encode
returns-clause-refused_text c = raw_outcome_holds amqp.ShortString (hex "01 ff") (search rules)

pub returns-clause-lacks : goal.returns-clause-lacks
returns-clause-lacks c = outcome_holds (hex "'A' 0000000a 'z'") (search rules)

pub returns-clause-unknown : goal.returns-clause-unknown
returns-clause-unknown c = outcome_holds (hex "'z' 'V'") (search rules)
