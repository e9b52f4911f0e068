-- `first_problem_in_table` by `Rules::Reading`: since it is `problem_in_table_of`, it is none
-- exactly if the table after its type tag is read, and otherwise says how that fails.
use Rattle.std.proofs.Common.{None, sym}
use Rattle.amqp_in_place.proofs.Canonicals.{bytes_all}
use Rattle.amqp_in_place.proofs.ProblemReadings.{table_read_if_none, table_fails_if_some}
use Rattle.amqp_in_place.proofs.problems.first_problem_in_table.Goals as goal

pub returns-clause-read : goal.returns-clause-read
returns-clause-read c = λ is.
    let s = c.args.table.now in
    table_read_if_none c.args.rules c.args.limits s (bytes_all s c.type_inv.table) is _ c.search_table.ensures.first

pub returns-clause-fails : goal.returns-clause-fails
returns-clause-fails c = λ is.
    let s = c.args.table.now in
    table_fails_if_some c.args.rules c.args.limits s (bytes_all s c.type_inv.table) is _ c.search_table.ensures.first

pub returns-then-is_table_read-clause-read : goal.returns-then-is_table_read-clause-read
returns-then-is_table_read-clause-read c = λ is.
    let s = c.args.table.now in
    table_read_if_none c.args.rules c.args.limits s (bytes_all s c.type_inv.table) is None (sym (c.is_table_read.ensures c.if-is_table_read.true))
