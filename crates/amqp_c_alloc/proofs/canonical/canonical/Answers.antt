-- `canonical` writes the canonical encoding of the value that is read: the bytes at the start that
-- are canonical, or else what `encode` writes for the value, which fits.
use Rattle.std.proofs.Common.{◌≡◌, ◌-◌, ◌∙◌, ℕ, List, length, take, drop, length-drop, refl, ap₂, inl, inr, arith, rules, if◌then◌else◌}
use Rattle.std.proofs.lemmas.Result.{err_from_is_err_and}
use Rattle.std.proofs.lemmas.List.{take_all}
use Rattle.amqp_value_core.specs.Texts.{text}
use Rattle.amqp_value_core.specs.View.{view}
use Rattle.amqp_c.specs.Inputs.{is_untagged}
use Rattle.amqp_c_alloc.proofs.CanonicalWritten.{put_canonical, fits_again, canonical_text}
use Rattle.amqp_c_alloc.proofs.canonical.canonical.Goals as goal

pub returns-in-Some-clause-written : goal.returns-in-Some-clause-written
returns-in-Some-clause-written c = put_canonical c.args.input.now c.in-Some.bytes.now c.args.buffer.now c.put_at_start.new.buffer c.put_at_start.result c.in-Some.ensures.canonical c.put_at_start.ensures.put

pub returns-in_default-to_owned-clause-written : goal.returns-in_default-to_owned-clause-written
returns-in_default-to_owned-clause-written c =
    let (rest, (bytes, inside, (v, denotes, x))) = c.in_ok-value.ensures.read in
    inr (inl (refl, c.canonical_start.ensures.none c.in_default.is, (v, rest, x)))

pub encode-requires-clause-fits : goal.encode-requires-clause-fits
encode-requires-clause-fits c =
    let (rest, read) = c.in_ok-value.ensures.read in
    (fits_again c.args.input.now c.in_ok-value.value rest (view c.in-Ok.owned) read c.in-Ok.ensures (omega arith)).0

pub encode-requires-clause-size : goal.encode-requires-clause-size
encode-requires-clause-size c =
    let (rest, read) = c.in_ok-value.ensures.read in
    (fits_again c.args.input.now c.in_ok-value.value rest (view c.in-Ok.owned) read c.in-Ok.ensures (omega arith)).1

pub returns-in_err-encoding-clause-written : goal.returns-in_err-encoding-clause-written
returns-in_err-encoding-clause-written c =
    let r = err_from_is_err_and c.from_residual-in_err-encoding.result c.from_residual-in_err-encoding.ensures.1 in
    let (rest, (bytes, inside, (v, denotes, x))) = c.in_ok-value.ensures.read in
    rw (r.1, r.2, c.in_err-encoding.ensures) (inr (inl (refl, c.canonical_start.ensures.none c.in_default.is, (v, rest, x))))

pub returns-clause-written : goal.returns-clause-written
returns-clause-written c =
    let input = c.args.input.now in
    let (rest, read) = c.in_ok-value.ensures.read in
    let v = view c.in-Ok.owned in
    let encoded : c.deref.result.now ≡ text v = search rules in
    let skipped : c.from.result ≡ (if is_untagged input then 1 else 0) = search rules in
    let bytes = take (length c.deref.result.now - c.from.result) (drop c.from.result c.deref.result.now) in
    let all : bytes ≡ drop c.from.result c.deref.result.now = take_all (length c.deref.result.now - c.from.result) (drop c.from.result c.deref.result.now) (omega (arith, length-drop c.from.result c.deref.result.now)) in
    let is = canonical_text input c.in_ok-value.value rest v read c.in-Ok.ensures bytes (all ∙ ap₂ (λ (n : ℕ) (t : List ℕ). drop n t) skipped encoded) in
    put_canonical input bytes c.args.buffer.now c.put_at_start-2.new.buffer c.put_at_start-2.result is c.put_at_start-2.ensures.put
