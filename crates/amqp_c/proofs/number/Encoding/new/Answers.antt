-- `Encoding::new` holds its type tag and its payload: the bytes of its number begin with the
-- payload that the number was made from.
use Rattle.std.proofs.Common.{◌∷◌, ◌∙◌, take, length, ap, rules}
use Rattle.std.proofs.lemmas.Nat.{le_bytes_8}
use Rattle.amqp_c.proofs.number.Encoding.new.Goals as goal

pub returns : goal.returns
returns c =
    ap (λ bytes. c.args.tag ∷ take (length c.args.payload.now) bytes) (le_bytes_8 c.eight_bytes-bytes.result c.from_le_bytes.result (search rules) (search rules) c.from_le_bytes.ensures)
    ∙ ap (λ bytes. c.args.tag ∷ bytes) c.eight_bytes-bytes.ensures
