-- `put_key`: the quote, a `$` if the name begins with one, and the escaped name are the token of
-- `written_key`.
use Rattle.std.proofs.Common.{◌∷◌, [], ◌++◌, List, ℕ, cond, ap, ◌∙◌, refl}
use Rattle.json.specs.Print.{escape}
use Rattle.json.specs.Token.{key}
use Rattle.amqp_json.specs.Written.{is_marked, written_key}
use Rattle.amqp_json.proofs.Escapes.{key_text}
use Rattle.amqp_json.proofs.Printed.{token_put, puts_more, puts_as}
use Rattle.amqp_json.proofs.printing.tokens.put_key.Goals as goal

pub returns : goal.returns
returns c =
    let k = c.args.name.now in
    token_put _ _ _ c.args.place _ _ (key (written_key k)) c.put_separator-at.ensures
    (puts_as _ _ _ _ _ _ (ap (λ (name : List ℕ). cond (is_marked k) (34 ∷ 36 ∷ []) (34 ∷ []) ++ (escape name ++ 34 ∷ 58 ∷ [])) c.as_bytes.ensures.value ∙ key_text k)
    (puts_more _ _ _ _ _ _ _ _ c.put_key_quote-at.ensures (puts_more _ _ _ _ _ _ _ _ c.put_escaped-at.ensures c.put.ensures))) refl
