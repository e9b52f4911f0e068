-- The bytes are scanned one by one: what completes them completes the place and the brackets that are open.
use Rattle.std.proofs.Common.{◌-◌, ◌≤◌, length}
use Rattle.amqp_json.specs.reading.Continuations.{IsScannedTo}
use Rattle.amqp_json.proofs.reading.syntax.first_fault.Given as goal

abbrev pub invariant-bytes : goal.invariant-bytes
invariant-bytes l = (l.at ≤ length l.text) × IsScannedTo l.text l.at l.scan.place l.scan.brackets

abbrev pub decreases-bytes : goal.decreases-bytes
decreases-bytes l = length l.text - l.at
