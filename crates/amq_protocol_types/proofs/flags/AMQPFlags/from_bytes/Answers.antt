-- `AMQPFlags::from_bytes`: each step adds the next flag of `unpack`, and all are there once the
-- names or the bytes end. An allocation can fail only if there is a flag.
use Rattle.std.proofs.Common.{string_bytes, arith, rules}
use Rattle.amq_protocol_types.specs.Flags.{flags_of}
use Rattle.amq_protocol_types.proofs.FlagBits.{next_flag, all_unpacked, some_flag}
use Rattle.amq_protocol_types.proofs.flags.AMQPFlags.from_bytes.Goals as goal
use Rattle.amq_protocol_types.proofs.flags.AMQPFlags.from_bytes.Goals.{else-loop-n-test, then-loop-n-test+then-n-input_len}

pub returns-in_err-from_str-clause-err : goal.returns-in_err-from_str-clause-err
returns-in_err-from_str-clause-err g c =
    let some = some_flag c.args.names.now (g.I.ParsableInput.bytes c.args.bytes) c.loop-n.n c.loop-n-test.true (omega arith) in
    search rules

pub returns-in_err-add_flag-clause-err : goal.returns-in_err-add_flag-clause-err
returns-in_err-add_flag-clause-err g c =
    let some = some_flag c.args.names.now (g.I.ParsableInput.bytes c.args.bytes) c.loop-n.n c.loop-n-test.true (omega arith) in
    search rules

pub loop-n-preserved : goal.loop-n-preserved
loop-n-preserved g c =
    next_flag c.args.names.now (g.I.ParsableInput.bytes c.args.bytes) c.loop-n.n _ (string_bytes c.in_ok-from_str.field-0) c.byte_at.result (flags_of c.loop-n.flags) (flags_of c.add_flag.new.self)
    c.loop-n-test.true (omega arith) c.in_ok-from_str.ensures.ok c.byte_at.ensures c.loop-n.invariant c.in_ok-add_flag.ensures.ok

pub returns-clause-ok : goal.returns-clause-ok
returns-clause-ok g c =
    let all = all_unpacked c.args.names.now (g.I.ParsableInput.bytes c.args.bytes) c.loop-n.n (flags_of c.loop-n.flags) in
    elim c.loop-n-test.branch [
      | else-loop-n-test w ↦ all (omega arith) c.loop-n.invariant
      | then-loop-n-test+then-n-input_len w ↦ all (omega arith) c.loop-n.invariant
    ]
