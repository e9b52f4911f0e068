-- `read_fixed` reads a value of fixed width, or more bytes are needed: its payload is what
-- `read_number` reads after the type tag.
use Rattle.std.proofs.Common.{List, ℕ, sym, subst, arith}
use Rattle.std.proofs.lemmas.Result.{err_from_is_err_and}
use Rattle.amqp_value_core.specs.Values.{scalar}
use Rattle.amqp_value_core.specs.Outcomes.{Outcome, found}
use Rattle.amqp_value_core.proofs.GrammarLaws.{raw_to_value}
use Rattle.amqp_value_core.specs.Bytes.{slice_bytes}
use Rattle.amqp_c.proofs.FirstEntry.{found_shorter, lacks_only}
use Rattle.amqp_c.proofs.entry.read_fixed.Goals as goal

pub returns : goal.returns
returns c =
    let s = c.args.bytes.now in
    let rest = slice_bytes c.in_ok-rest.rest in
    let p = c.requires.at in
    let x = c.in_ok-rest.ensures in
    let v = scalar x.0 in
    let read = subst (λ (t : List ℕ). Outcome t (found v rest)) (sym p.1) (raw_to_value p.0 c.args.amqp_type (slice_bytes c.args.payload) (found v rest) p.2 x.1) in
    (v, rest, read, omega (arith, found_shorter s rest v read, c.input_len.ensures.count), x.2, x.3)

pub returns-in_err-rest : goal.returns-in_err-rest
returns-in_err-rest c =
    let r = err_from_is_err_and c.from_residual.result c.from_residual.ensures.1 in
    let e = c.in_err-rest.field-0.0 in
    rw (r.1) (e, r.2, lacks_only c.args.bytes.now (slice_bytes c.args.payload) c.args.amqp_type c.requires.at e c.in_err-rest.ensures)
