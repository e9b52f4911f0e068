-- What is scanned decides as the lexemes of the text do.
use Rattle.std.proofs.Common.{◌-◌, length}
use Rattle.amqp_json.specs.reading.Scans.{mode_of, ScansTo}
use Rattle.amqp_json.proofs.reading.nesting.first_too_deep.Given as goal

abbrev pub invariant-bytes : goal.invariant-bytes
invariant-bytes l = ScansTo l.most l.text l.at (mode_of l.place) l.left

abbrev pub decreases-bytes : goal.decreases-bytes
decreases-bytes l = length l.text - l.at
