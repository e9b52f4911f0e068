-- `canonical_len`: a canonical encoding within the limits has the header `Whole`, and
-- `after_canonical` finds what is after it, so its length is that of the bytes before that.
use Rattle.std.proofs.Common.{ℕ, ◌-◌, List, length, sym, ap, subst, arith}
use Rattle.amqp_value_core.specs.Bytes.{IsBytes, slice_bytes}
use Rattle.amq_protocol_types.specs.parsing.Limits.{IsHeader}
use Rattle.amqp_in_place.specs.Canonicals.{CanonPrefix}
use Rattle.amqp_in_place.proofs.Canonicals.{canon_len, prefix_of_len, len_header, rest_shorter}
use Rattle.amqp_in_place.proofs.canonical.canonical_len.Goals as goal

pub returns-in_default-clause-none : goal.returns-in_default-clause-none
returns-in_default-clause-none c = λ _ n x.
    c.in_default.not-Whole
    (len_header c.args.limits c.args.bytes.now c.header_of.result n (subst (λ (s : List ℕ). IsHeader c.args.limits.frame s c.header_of.result) c.new-i.ensures c.header_of.ensures.header) x)

pub returns-in_err-rest-clause-none : goal.returns-in_err-rest-clause-none
returns-in_err-rest-clause-none c = λ _ n x.
    let f = prefix_of_len c.args.limits c.args.bytes.now n x in
    c.after_canonical.ensures.none c.in_err-rest.was f.0 (subst (λ (s : List ℕ). CanonPrefix c.args.limits.depth s f.0) (sym c.new-i.ensures) f.1)

pub overflow_sub-result : goal.overflow_sub-result
overflow_sub-result c =
    let rest = slice_bytes c.in_ok-rest.rest in
    let shorter = rest_shorter c.args.limits.depth (slice_bytes c.new-i.result) rest c.in_ok-rest.ensures.rest in
    omega (arith, shorter, ap length c.new-i.ensures, c.input_len.ensures.count)

pub returns-clause-len : goal.returns-clause-len
returns-clause-len c =
    let s = c.args.bytes.now in
    let rest = slice_bytes c.in_ok-rest.rest in
    let prefix = subst (λ (s : List ℕ). CanonPrefix c.args.limits.depth s rest) c.new-i.ensures c.in_ok-rest.ensures.rest in
    let bytes = subst IsBytes c.new-i.ensures c.header_of.ensures.bytes in
    let here = subst (λ (s : List ℕ). IsHeader c.args.limits.frame s c.header_of.result) c.new-i.ensures c.header_of.ensures.header in
    let whole = rw c.in-Whole.is at here in
    canon_len c.args.limits s rest (length s - c.input_len.result) bytes whole.0 prefix (omega (arith, c.input_len.ensures.count, rest_shorter c.args.limits.depth s rest prefix))
