-- `decimal` puts an opening brace and the key, the decimal's string and a closing brace.
use Rattle.std.proofs.Common.{◌∷◌, [], codes}
use Rattle.json.specs.Token.{begin_object, key, string}
use Rattle.amqp_json.specs.Written.{decimal_text}
use Rattle.amqp_json.proofs.Printed.{tokens_more}
use Rattle.amqp_json.proofs.printing.leaves.decimal.Goals as goal

pub returns : goal.returns
returns c =
    tokens_more _ _ _ _ _ _ (begin_object ∷ key (codes "$DecimalValue") ∷ []) _ c.put_name-place.ensures
    (tokens_more _ _ _ _ _ _ (string (decimal_text c.args.d.scale c.args.d.value) ∷ []) _ c.put_decimal-place.ensures c.put_token.ensures)
