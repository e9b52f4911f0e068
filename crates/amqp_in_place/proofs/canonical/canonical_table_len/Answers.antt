-- `canonical_table_len`: after the type tag the table is a canonical encoding exactly if its body
-- is canonical, and if its header is rejected there is none.
use Rattle.std.proofs.Common.{rules, ◌≤◌, ◌-◌, ℕ, List, length, ap, subst, arith, length-append}
use Rattle.amqp_value_core.specs.declared.types.amqp_type.AMQPType.TheVariants as amqp
use Rattle.amqp_value_core.specs.Bytes.{slice_bytes}
use Rattle.amqp_value_core.specs.Grammar.{long_field}
use Rattle.amq_protocol_types.specs.parsing.Bodies.{IsLengthPrefixed}
use Rattle.amq_protocol_types.specs.parsing.Headers.{extent}
use Rattle.amq_protocol_types.specs.parsing.Untagged.{tagged, RefusesUntagged}
use Rattle.amqp_in_place.proofs.Refusals.{not_read}
use Rattle.amqp_in_place.proofs.Canonicals.{bytes_all}
use Rattle.amqp_in_place.proofs.Untagged.{table_len, len_inside}
use Rattle.amqp_in_place.proofs.canonical.canonical_table_len.Goals as goal

pub returns-in_default-clause-none : goal.returns-in_default-clause-none
returns-in_default-clause-none c = λ _ n (w, rest, v, is, size, canonical, within).
    let e = c.in_default.field-0 in
    not_read c.args.limits (tagged amqp.FieldTable c.args.bytes.now) rest v e within
    (subst (λ (s : List ℕ). RefusesUntagged c.args.limits amqp.FieldTable s e) c.new.ensures c.in_default.ensures.err) c.in_default.ensures.no_memory

pub returns-then-not-has_canonical_body-clause-none : goal.returns-then-not-has_canonical_body-clause-none
returns-then-not-has_canonical_body-clause-none c = λ _ n x.
    let rest = slice_bytes c.in-Ok.rest in
    let framed = subst (λ (s : List ℕ). IsLengthPrefixed s (slice_bytes c.in-Ok.body) rest) c.new.ensures c.in-Ok.ensures.body in
    c.has_canonical_body.ensures.no (search rules) (len_inside c.args.limits c.args.bytes.now c.in-Ok.body rest framed n x)

pub returns-clause-len : goal.returns-clause-len
returns-clause-len c =
    let s = c.args.bytes.now in
    let rest = slice_bytes c.in-Ok.rest in
    let framed = subst (λ (s : List ℕ). IsLengthPrefixed s (slice_bytes c.in-Ok.body) rest) c.new.ensures c.in-Ok.ensures.body in
    let fits = subst (λ (s : List ℕ). extent (tagged amqp.FieldTable s) ≤ c.args.limits.frame) c.new.ensures c.in-Ok.ensures.fits in
    table_len c.args.limits s c.in-Ok.body rest framed (bytes_all s c.type_inv.bytes) fits (c.has_canonical_body.ensures.yes (search rules)) (length s - c.input_len.result)
    (omega (arith, c.input_len.ensures.count, ap length framed.framed, length-append (long_field (slice_bytes c.in-Ok.body)) rest))
