-- The brackets that are open, after one more is.
use Rattle.std.proofs.Common.{◌≡◌, ℕ, zero, suc, ◌+◌, ◌<◌, ◌≤◌, List, ◌∷◌, length, set, get_or, refl, ap, ◌∙◌, arith}
use Rattle.std.proofs.lemmas.List.{get_or-set_same, get_or-set_other}
use Rattle.amqp_json.specs.declared.reading.brackets.Bracket.{Bracket}
use Rattle.amqp_json.specs.declared.reading.brackets.Bracket.TheVariants.{Array}
use Rattle.amqp_json.specs.reading.Scans.{innermost_first}

inner_kept : (bs : List Bracket) (at : ℕ) (b : Bracket) (n : ℕ) → n ≤ at → innermost_first (set bs at b) n ≡ innermost_first bs n
inner_kept bs at b zero le = refl
inner_kept bs at b (suc n) le = ap (λ x. x ∷ innermost_first (set bs at b) n) (get_or-set_other bs at n b Array (λ e. omega (arith, le, e))) ∙ ap (λ l. get_or bs n Array ∷ l) (inner_kept bs at b n (omega (arith, le)))

pub one_opened : (bs : List Bracket) (depth : ℕ) (b : Bracket) → depth < length bs → innermost_first (set bs depth b) (depth + 1) ≡ b ∷ innermost_first bs depth
one_opened bs depth b inside =
    let more : depth + 1 ≡ suc depth = omega arith in
    ap (innermost_first (set bs depth b)) more
    ∙ ap (λ x. x ∷ innermost_first (set bs depth b) depth) (get_or-set_same bs depth b Array inside)
    ∙ ap (λ l. b ∷ l) (inner_kept bs depth b depth (omega arith))
