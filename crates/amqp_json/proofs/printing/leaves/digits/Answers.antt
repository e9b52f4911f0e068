-- `digits` puts an opening brace and the key, the digits as a string and a closing brace.
use Rattle.std.proofs.Common.{◌∷◌, []}
use Rattle.hex.specs.Hex.{encode_lower}
use Rattle.json.specs.Token.{begin_object, key, string}
use Rattle.amqp_json.proofs.Printed.{tokens_more}
use Rattle.amqp_json.proofs.printing.leaves.digits.Goals as goal

pub returns : goal.returns
returns c =
    tokens_more _ _ _ _ _ _ (begin_object ∷ key c.args.name.now ∷ []) _ c.put_name-place.ensures
    (tokens_more _ _ _ _ _ _ (string (encode_lower c.args.bytes.now) ∷ []) _ c.put_digits-place.ensures c.put_token.ensures)
