-- `open`: the bracket is before the others.
use Rattle.std.proofs.Common.{rules}
use Rattle.amqp_json.proofs.OpenBrackets.{one_opened}
use Rattle.amqp_json.proofs.reading.brackets.Brackets.open.Goals as goal

pub returns : goal.returns
returns c = search (rules, one_opened)
