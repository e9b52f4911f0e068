-- `count_values` reads one value more in each iteration, by the clauses of `loop_over_values`.
use Rattle.std.proofs.Common.{◌≡◌, [], ◌∷◌, ◌++◌, length-append, Some, None, Ok, refl, rules, arith}
use Rattle.std.proofs.lemmas.Option.{IfSome_then}
use Rattle.amqp_value_core.specs.View.{view}
use Rattle.amq_protocol_types.specs.stream.Readers.{values_of, reader_of, kept}
use Rattle.examples.proofs.count.count_values.Goals as goal

pub values-init : goal.values-init
values-init g c =
    let reader = c.new-reader.result in
    let is = c.new-reader.ensures in
    ([], c.loop_over_values.ensures.start c.args.limits (values_of reader) c.args.stream (reader_of reader) is.reader is.limits is.kept is.not_failed, refl)

pub values-preserved : goal.values-preserved
values-preserved g c =
    let (vs, read, count) = c.values.invariant in
    let value = c.in-Some._value in
    let is : c.next.result ≡ Ok (Some value) = search rules in
    (vs ++ view value ∷ [], c.loop_over_values.ensures.value _ _ vs value _ _ _ _ _ is read c.next.ensures, omega (arith, count, length-append vs (view value ∷ [])))

pub returns-in_default : goal.returns-in_default
returns-in_default g c =
    let (vs, read, count) = c.values.invariant in
    let is : c.next.result ≡ Ok None = search rules in
    IfSome_then (g.R.Read.remaining c.args.stream) (c.loop_over_values.ensures.end _ _ vs _ _ _ _ _ is read c.next.ensures) (λ s begins. (vs, [], begins, count, λ fewer. refl))

pub returns : goal.returns
returns g c =
    let (vs, read, count) = c.values.invariant in
    IfSome_then (g.R.Read.remaining c.args.stream) read.read
    (λ s (left, is, begins). (vs, kept (values_of c.values.reader) ++ left, begins, omega (arith, count), λ fewer. absurd (omega (arith, fewer))))
