-- Of the loop in `put_escaped`: what is put, and the escape of what is left, are that of the text.
use Rattle.std.proofs.Common.{◌≡◌, ◌-◌, ◌≤◌, ◌++◌, List, ℕ, length, drop}
use Rattle.json.specs.Print.{escape}
use Rattle.amqp_json.specs.printing.Buffers.{PutsBytes}
use Rattle.amqp_json.proofs.printing.put.put_escaped.Given as goal

-- with what is left, the text is there
abbrev pub invariant-loop-from : goal.invariant-loop-from
invariant-loop-from l =
    (l.from ≤ length l.text)
    × (done : List ℕ) × PutsBytes l.fn.buffer l.fn.at l.buffer l.at done × (done ++ escape (drop l.from l.text) ≡ escape l.text)

abbrev pub decreases-loop-from : goal.decreases-loop-from
decreases-loop-from l = length l.text - l.from
