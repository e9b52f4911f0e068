-- `put_three`: the last byte was put after the others.
use Rattle.std.proofs.Common.{◌∷◌, [], sym, append_assoc}
use Rattle.std.specs.Bool.{⊤}
use Rattle.amq_protocol_types.proofs.Steps.{both_put, by_buffer}
use Rattle.amq_protocol_types.proofs.generation.output.BackToTheBuffer.put_three.Goals as goal

pub returns : goal.returns
returns g c =
    let one = g.met.Self.BackToTheBuffer.is_one in
    both_put ⊤ _ (sym (append_assoc c.args.a.now c.args.b.now (c.args.c ∷ []))) (λ _ _. tt) (by_buffer one c.in_ok-put_both.ensures) (by_buffer one c.in_default.ensures.written)
