-- `put_decimal`: digits and `e-` need no escape, so what is put is the token of their string.
use Rattle.std.proofs.Common.{◌∷◌, [], ◌++◌, List, ℕ, decimal, sym, ap, refl, ◌∙◌, arith, append_assoc}
use Rattle.json.specs.Token.{string}
use Rattle.amqp_json.specs.Written.{decimal_text}
use Rattle.amqp_json.proofs.Escapes.{decimal_plain}
use Rattle.amqp_json.proofs.Printed.{token_put, puts_more, puts_as}
use Rattle.amqp_json.proofs.printing.tokens.put_decimal.Goals as goal

pub returns : goal.returns
returns c =
    let n = c.args.d.value in
    let scale = c.args.d.scale in
    let plain = decimal_plain scale n (omega arith) (omega arith) in
    token_put _ _ _ c.args.place _ _ (string (decimal_text scale n)) c.put_separator-at.ensures
    (puts_as _ _ _ _ _ _ (ap (λ (l : List ℕ). 34 ∷ l) (sym (append_assoc (decimal n) (101 ∷ 45 ∷ decimal scale) (34 ∷ []))) ∙ ap (λ (l : List ℕ). 34 ∷ (l ++ 34 ∷ [])) (sym plain))
    (puts_more _ _ _ _ _ _ (34 ∷ []) _ c.put-at.ensures
    (puts_more _ _ _ _ _ _ (decimal n) _ c.put_natural-at.ensures
    (puts_more _ _ _ _ _ _ (101 ∷ 45 ∷ []) _ c.put-at-2.ensures
    (puts_more _ _ _ _ _ _ (decimal scale) (34 ∷ []) c.put_natural-at-2.ensures c.put.ensures))))) refl
