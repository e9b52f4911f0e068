-- `first_fault`: what completes the bytes that are scanned completes the place; no byte after a fault does.
use Rattle.std.proofs.Common.{arith, rules, length, get_or, ap, ◌≡◌, ◌∙◌}
use Rattle.amqp_json.proofs.Completing.{scanned_none, scanned_more, scan_stops, mark_stops}
use Rattle.amqp_json.proofs.reading.syntax.first_fault.Goals as goal

pub bytes-init : goal.bytes-init
bytes-init c = (omega arith, scanned_none c.args.text.now _ c.new.ensures)

pub bytes-preserved : goal.bytes-preserved
bytes-preserved c =
    let l = c.bytes in
    let bytes = c.as_bytes-bytes.result.now in
    let same = ap length c.as_bytes-bytes.ensures.value in
    (omega (arith, same, c.bytes-test.true), scanned_more c.args.text.now l.at l.scan.place l.scan.brackets (get_or bytes l.at 0) (omega (arith, same, c.bytes-test.true)) (ap (λ b. get_or b l.at 0) c.as_bytes-bytes.ensures.value) l.invariant.1 _ _ c.in-Ok.ensures.leads)

pub returns-in-239-clause-none : goal.returns-in-239-clause-none
returns-in-239-clause-none c =
    let first : 239 ≡ get_or c.as_bytes-bytes.result.now 0 0 = search rules in
    λ inside. mark_stops c.args.text.now inside (first ∙ ap (λ b. get_or b 0 0) c.as_bytes-bytes.ensures.value)

pub returns-in-Err-clause-none : goal.returns-in-Err-clause-none
returns-in-Err-clause-none c = λ inside.
    let l = c.bytes in
    let bytes = c.as_bytes-bytes.result.now in
    scan_stops c.args.text.now l.at l.scan.place l.scan.brackets (get_or bytes l.at 0) inside (ap (λ b. get_or b l.at 0) c.as_bytes-bytes.ensures.value) l.invariant.1 c.in-Err.ensures.leads
