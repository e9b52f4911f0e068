-- `first_problem` by `Rules::Reading`: since it is `problem_of`, it is none exactly if a value is
-- read, and otherwise says how reading fails.
use Rattle.std.proofs.Common.{None, sym}
use Rattle.amqp_in_place.proofs.Canonicals.{bytes_all}
use Rattle.amqp_in_place.proofs.ProblemReadings.{reads_if_none, fails_if_some}
use Rattle.amqp_in_place.proofs.problems.first_problem.Goals as goal

pub returns-clause-read : goal.returns-clause-read
returns-clause-read c = λ is.
    let s = c.args.bytes.now in
    reads_if_none c.args.rules c.args.limits s (bytes_all s c.type_inv.bytes) is _ c.search.ensures.first

pub returns-clause-fails : goal.returns-clause-fails
returns-clause-fails c = λ is.
    let s = c.args.bytes.now in
    fails_if_some c.args.rules c.args.limits s (bytes_all s c.type_inv.bytes) is _ c.search.ensures.first

pub returns-then-is_read-clause-read : goal.returns-then-is_read-clause-read
returns-then-is_read-clause-read c = λ is.
    let s = c.args.bytes.now in
    reads_if_none c.args.rules c.args.limits s (bytes_all s c.type_inv.bytes) is None (sym (c.is_read.ensures c.if-is_read.true))
