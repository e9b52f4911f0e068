-- `Values::whole`: the value takes all bytes that are retained, since with fewer some were missing.
use Rattle.std.proofs.Common.{◌≡◌, ◌++◌, ◌∙◌, List, ℕ, [], ap, sym, subst, append-nil, rules}
use Rattle.amqp_value_core.specs.View.{view}
use Rattle.amqp_value_core.specs.Nesting.{WireWithin, OutcomeWithin}
use Rattle.amqp_value_core.specs.Outcomes.{found}
use Rattle.amqp_value_core.specs.Bytes.{slice_bytes}
use Rattle.amqp_value_core.proofs.GrammarLaws.{prefix_within}
use Rattle.amq_protocol_types.specs.stream.Readers.{kept}
use Rattle.amq_protocol_types.proofs.MissingBytes.{nothing_after, kept_within}
use Rattle.amq_protocol_types.proofs.stream.values.Values.whole.Goals as goal

pub returns-in-Ok-clause-outcome : goal.returns-in-Ok-clause-outcome
returns-in-Ok-clause-outcome c = λ left.
    let r = c.args.self.now in
    let s = kept r in
    let rest = slice_bytes c.in-Ok.field-0-0 in
    let d = r.limits.depth in
    let x : OutcomeWithin d s (found (view c.in-Ok.value) rest) = search (rules, c.in-Ok.ensures) in
    let none : rest ≡ [] = nothing_after r.limits.frame d s (view c.in-Ok.value) rest r.waiting x in
    let f = prefix_within d s rest (view c.in-Ok.value) x in
    let all : f.0 ≡ s = sym (f.2 ∙ ap (λ (t : List ℕ). f.0 ++ t) none ∙ append-nil f.0) in
    (subst (λ (t : List ℕ). WireWithin d t (view c.in-Ok.value)) all f.1, kept_within r.limits.frame s r.some r.waiting, search rules, c.requires.not_failed)
