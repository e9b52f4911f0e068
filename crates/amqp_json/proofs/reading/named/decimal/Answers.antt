-- `decimal`: a text whose exponent doesn't begin with a minus isn't a decimal.
use Rattle.std.proofs.Common.{rules}
use Rattle.amqp_json.proofs.ObjectKeys.{no_minus}
use Rattle.amqp_json.proofs.reading.named.decimal.Goals as goal

pub returns-in_err-strip_prefix : goal.returns-in_err-strip_prefix
unfolding lib.Utf8.encode
returns-in_err-strip_prefix c =
    let no = no_minus c.in_ok-value.exponent.now c.in_err-strip_prefix.ensures.cases in
    search (rules, no)
