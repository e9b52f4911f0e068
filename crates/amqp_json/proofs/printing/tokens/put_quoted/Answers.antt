-- `put_quoted` puts the opening quote, the escaped text and `close`, one after another.
use Rattle.std.proofs.Common.{◌∷◌, []}
use Rattle.amqp_json.proofs.Printed.{puts_more}
use Rattle.amqp_json.proofs.printing.tokens.put_quoted.Goals as goal

pub returns : goal.returns
returns c = puts_more _ _ _ _ _ _ (34 ∷ []) _ c.put-at.ensures (puts_more _ _ _ _ _ _ _ _ c.put_escaped-at.ensures c.put.ensures)
