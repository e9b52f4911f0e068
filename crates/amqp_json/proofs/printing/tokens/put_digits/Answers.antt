-- `put_digits`: hexadecimal digits need no escape, so what is put is the token of their string.
use Rattle.std.proofs.Common.{◌≡◌, ◌∷◌, [], ◌++◌, sym, ap, refl, List, ℕ}
use Rattle.hex.specs.Hex.{encode_lower}
use Rattle.json.specs.Token.{string}
use Rattle.json.specs.Print.{escape}
use Rattle.amqp_json.proofs.Escapes.{digits_plain}
use Rattle.amqp_json.proofs.Printed.{token_put, puts_more, puts_as}
use Rattle.amqp_json.proofs.printing.tokens.put_digits.Goals as goal

pub returns : goal.returns
returns c =
    let digits = encode_lower c.args.bytes.now in
    let plain : escape digits ≡ digits = digits_plain c.args.bytes.now (λ i. (c.type_inv.bytes i).fits) in
    token_put _ _ _ c.args.place _ _ (string digits) c.put_separator-at.ensures
    (puts_as _ _ _ _ _ _ (ap (λ (l : List ℕ). 34 ∷ (l ++ 34 ∷ [])) (sym plain))
    (puts_more _ _ _ _ _ _ (34 ∷ []) _ c.put-at.ensures (puts_more _ _ _ _ _ _ digits (34 ∷ []) c.put_hexadecimal-at.ensures c.put.ensures))) refl
