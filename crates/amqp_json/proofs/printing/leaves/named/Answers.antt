-- `named` puts an opening brace and the key, the value and a closing brace.
use Rattle.std.proofs.Common.{◌∷◌, []}
use Rattle.json.specs.Token.{begin_object, key}
use Rattle.json.specs.Reads.{token_of}
use Rattle.amqp_json.proofs.Printed.{tokens_more}
use Rattle.amqp_json.proofs.printing.leaves.named.Goals as goal

pub returns : goal.returns
returns c =
    tokens_more _ _ _ _ _ _ (begin_object ∷ key c.args.name.now ∷ []) _ c.put_name-place.ensures
    (tokens_more _ _ _ _ _ _ (token_of c.args.value ∷ []) _ c.put_token-place.ensures c.put_token.ensures)
