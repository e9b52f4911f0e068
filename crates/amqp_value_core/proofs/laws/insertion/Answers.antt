-- The law `insertion`: `search` doesn't look through bytes that are joined.
use Rattle.amqp_value_core.proofs.GrammarLaws.{insert_bytes}
use Rattle.amqp_value_core.proofs.laws.insertion.Goals as goal

pub returns-clause-bytes : goal.returns-clause-bytes
returns-clause-bytes c = insert_bytes
