-- `find` returns what the path leads to (`StepsLead`): the loop takes one step after another, until
-- one finds nothing or fails.
use Rattle.std.proofs.Common.{◌≡◌, ◌<◌, ◌≤◌, length, Option, Some, None, Ok, Err, ap, ◌∙◌, arith}
use Rattle.std.proofs.lemmas.Grind.{common_steps}
use Rattle.std.proofs.lemmas.Result.{err_from_is_err_and}
use Rattle.amqp_c.specs.declared.entry.Entry.{Entry}
use Rattle.amqp_c.specs.Paths.{IsInside}
use Rattle.amqp_c.proofs.Paths.{looked_up_on, one_step, step_inside, no_step, bad_step, last_step}
use Rattle.amqp_c.proofs.lookup.find.Goals as goal

pub returns-in_err-next : goal.returns-in_err-next
returns-in_err-next c =
    let s = c.args.bytes.now in
    let i = c.loop-step.step-index in
    let p = err_from_is_err_and c.from_residual.result c.from_residual.ensures.1 in
    let in_s : IsInside (length s) c.args.from.now = grind (arith, common_steps) in
    let few : i < length c.args.path.now = omega (arith, c.loop-step-test.true) in
    let f = c.in_err-next.field-0.0 in
    rw (p.1, p.2)
    (looked_up_on s c.args.from.now c.args.path.now c.args.first_key (Err f) in_s
    (c.loop-step.invariant.on (Err f) (bad_step s c.args.first_key c.args.path.now i _ c.loop-step.at c.step.result few c.step.ensures f (c.in_err-next.was {u = tt}))) tt)

pub returns-in-None : goal.returns-in-None
returns-in-None c =
    let s = c.args.bytes.now in
    let i = c.loop-step.step-index in
    let in_s : IsInside (length s) c.args.from.now = grind (arith, common_steps) in
    let few : i < length c.args.path.now = omega (arith, c.loop-step-test.true) in
    let is : c.step.result ≡ Ok None = c.in_ok-next.was {u = tt} ∙ ap (λ (o : Option Entry). Ok o) c.in-None.is in
    looked_up_on s c.args.from.now c.args.path.now c.args.first_key (Ok None) in_s
    (c.loop-step.invariant.on (Ok None) (no_step s c.args.first_key c.args.path.now i _ c.loop-step.at c.step.result few c.step.ensures is)) tt

pub returns : goal.returns
returns c =
    let s = c.args.bytes.now in
    let i = c.loop-step.step-index in
    let e = c.loop-step.at in
    let in_s : IsInside (length s) c.args.from.now = grind (arith, common_steps) in
    let all : length c.args.path.now ≤ i = omega (arith, c.loop-step-test.false) in
    looked_up_on s c.args.from.now c.args.path.now c.args.first_key (Ok (Some e)) in_s
    (c.loop-step.invariant.on (Ok (Some e)) (last_step s c.args.first_key c.args.path.now i e all)) c.loop-step.invariant.inside

pub loop-step-preserved : goal.loop-step-preserved
loop-step-preserved c =
    let s = c.args.bytes.now in
    let i = c.loop-step.step-index in
    let e = c.loop-step.at in
    let few : i < length c.args.path.now = omega (arith, c.loop-step-test.true) in
    let next = c.in-Some.next in
    let is : c.step.result ≡ Ok (Some next) = c.in_ok-next.was {u = tt} ∙ ap (λ (o : Option Entry). Ok o) c.in-Some.is in record {
      on = λ done follows. c.loop-step.invariant.on done (one_step s c.args.first_key c.args.path.now i _ e c.step.result few c.step.ensures next done is follows);
      inside = step_inside s c.args.first_key c.args.path.now i _ e c.step.result few c.step.ensures next is;
    }
