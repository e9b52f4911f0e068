-- `encoded_has_one_text`: the law that `one_text` proves.
use Rattle.amqp_json.proofs.PrintedTexts.{one_text}
use Rattle.amqp_json.proofs.laws.encoded_has_one_text.Goals as goal

pub returns : goal.returns
returns c = one_text
