-- `ValueRef::get_path`: a step leads on from where the path led so far, and stays inside the bytes
-- of the first container.
use Rattle.std.proofs.Common.{◌+◌, arith}
use Rattle.amqp_in_place.specs.Refs.{Denotes}
use Rattle.amqp_in_place.specs.Written.{IsWrittenAs}
use Rattle.amqp_in_place.proofs.Paths.{follows-next, leads-next, is_in_step}
use Rattle.amqp_in_place.proofs.refs.ValueRef.get_path.Goals as goal

pub loop-step-preserved : goal.loop-step-preserved
loop-step-preserved c =
    let path = c.args.path.now in
    let i = c.loop-step.step-index in
    let here = c.loop-step.at in
    let x = c.in_ok-at in
    let known = c.loop-step.invariant in
    record {
      written = follows-next IsWrittenAs c.args.of_equal path c.args.self i (i + 1) _ here x.at c.loop-step-test.true (omega arith) known.written x.ensures.written;
      last = λ is. follows-next Denotes c.args.of_equal path c.args.self i (i + 1) _ here x.at c.loop-step-test.true (omega arith) (known.last is) (x.ensures.last is);
      start = λ e. absurd (omega (arith, e));
      inside = λ some. is_in_step i c.args.self here x.at known.start known.inside x.ensures.inside;
      view = leads-next c.args.of_equal path c.args.self i (i + 1) _ here x.at c.loop-step-test.true (omega arith) known.view x.ensures.view;
    }
