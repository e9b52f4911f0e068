-- `first_too_deep`: after each byte of the text, the scan decides as `lexemes_fit` does.
use Rattle.std.proofs.Common.{arith, length, get_or, ap, take_all}
use Rattle.amqp_json.specs.reading.Scans.{mode_of}
use Rattle.amqp_json.proofs.Scanning.{scan_first, scan_next, scan_too_deep, scan_end}
use Rattle.amqp_json.proofs.reading.nesting.first_too_deep.Goals as goal

pub bytes-init : goal.bytes-init
bytes-init c = scan_first c.args.most c.args.text.now

pub returns-in_default : goal.returns-in_default
returns-in_default c =
    let l = c.bytes in
    let bytes = c.as_bytes-bytes.result.now in
    let same = ap length c.as_bytes-bytes.ensures.value in
    scan_too_deep c.args.most c.args.text.now l.at (mode_of l.place) l.left l.invariant (omega (arith, same, c.bytes-test.true)) (get_or bytes l.at 0) (ap (λ b. get_or b l.at 0) c.as_bytes-bytes.ensures.value) c.in_default.ensures.decides

pub bytes-preserved : goal.bytes-preserved
bytes-preserved c =
    let l = c.bytes in
    let bytes = c.as_bytes-bytes.result.now in
    let same = ap length c.as_bytes-bytes.ensures.value in
    scan_next c.args.most c.args.text.now l.at (mode_of l.place) l.left l.invariant (omega (arith, same, c.bytes-test.true)) (get_or bytes l.at 0) (ap (λ b. get_or b l.at 0) c.as_bytes-bytes.ensures.value)
    c.in-Some.now c.in-Some.ensures.more c.in-Some.ensures.decides (mode_of c.place_after-place.result) c.place_after-place.ensures

pub returns : goal.returns
returns c =
    let l = c.bytes in
    let same = ap length c.as_bytes-bytes.ensures.value in
    scan_end c.args.most c.args.text.now l.at (mode_of l.place) l.left l.invariant (take_all l.at c.args.text.now (omega (arith, same, c.bytes-test.false)))
