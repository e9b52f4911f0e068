-- `put_name`: a name that needs no escape is the text of its key.
use Rattle.std.proofs.Common.{◌∷◌, [], ◌++◌, List, ℕ, sym, ap, ◌∙◌, refl, append_assoc}
use Rattle.json.specs.Print.{escape}
use Rattle.amqp_json.proofs.Printed.{name_put, puts_more, puts_as}
use Rattle.amqp_json.proofs.printing.tokens.put_name.Goals as goal

pub returns : goal.returns
returns c =
    let name = c.args.name.now in
    name_put _ _ _ c.args.place _ _ name c.put_separator-at.ensures
    (puts_as _ _ _ _ _ _
    (ap (λ (l : List ℕ). 123 ∷ 34 ∷ (l ++ 34 ∷ 58 ∷ [])) (c.as_bytes.ensures.value ∙ sym c.requires) ∙ ap (λ (l : List ℕ). 123 ∷ 34 ∷ l) (sym (append_assoc (escape name) (34 ∷ []) (58 ∷ []))))
    (puts_more _ _ _ _ _ _ (123 ∷ 34 ∷ []) _ c.put-at.ensures (puts_more _ _ _ _ _ _ _ _ c.put-at-2.ensures c.put.ensures))) refl
