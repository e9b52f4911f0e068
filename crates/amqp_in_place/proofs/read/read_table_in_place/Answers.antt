-- `read_table_in_place`: after the type tag the table is the head of a value, so it is read exactly
-- if that value is.
use Rattle.std.proofs.Common.{ℕ, List, sym, ◌∙◌, subst, rules}
use Rattle.amqp_value_core.specs.declared.types.amqp_type.AMQPType.TheVariants as amqp
use Rattle.amqp_value_core.specs.Values.{Tree, table}
use Rattle.amqp_value_core.specs.Nesting.{OutcomeWithin}
use Rattle.amqp_value_core.specs.Grammar.{long_field}
use Rattle.amqp_value_core.specs.Outcomes.{found, malformed}
use Rattle.amqp_value_core.specs.Bytes.{slice_bytes}
use Rattle.amq_protocol_types.specs.parsing.Untagged.{tagged, UntaggedWithin}
use Rattle.amqp_in_place.specs.declared.head.Head.TheVariants as head
use Rattle.amqp_in_place.proofs.HeadLemmas.{head_read, head_bad}
use Rattle.amqp_in_place.proofs.Reading.{one_table}
use Rattle.amqp_in_place.proofs.Untagged.{table_head}
use Rattle.amqp_in_place.proofs.read.read_table_in_place.Goals as goal

pub returns-then-not-has_valid_body-clause-within : goal.returns-then-not-has_valid_body-clause-within
returns-then-not-has_valid_body-clause-within c =
    let s = slice_bytes c.new.result in
    let i = c.in_ok-rest.body in
    let rest = slice_bytes c.in_ok-rest.rest in
    let h = c.in_ok-rest.ensures in
    rw c.error_of_kind.ensures
    (subst (λ (t : List ℕ). UntaggedWithin c.args.limits amqp.FieldTable t malformed) c.new.ensures
    (h.fits, head_bad c.args.limits.depth (tagged amqp.FieldTable s) rest (head.FieldTable i) (table_head s i rest h.body) (c.has_valid_body.ensures.no (search rules))))

pub returns-clause-within : goal.returns-clause-within
returns-clause-within c =
    let s = slice_bytes c.new.result in
    let i = c.in_ok-rest.body in
    let rest = slice_bytes c.in_ok-rest.rest in
    let h = c.in_ok-rest.ensures in
    let (v, (es, pairs, is), read) = head_read c.args.limits.depth (tagged amqp.FieldTable s) rest (head.FieldTable i) (table_head s i rest h.body) (c.has_valid_body.ensures.yes (search rules)) in
    (es, rw c.of.ensures pairs, rw c.as_slice.ensures (subst (λ (t : List ℕ). UntaggedWithin c.args.limits amqp.FieldTable t (found (table es) rest)) c.new.ensures (h.fits, subst (λ (u : Tree). OutcomeWithin c.args.limits.depth (tagged amqp.FieldTable s) (found u rest)) is read)))

pub returns-clause-one : goal.returns-clause-one
returns-clause-one c = one_table c.of.result

pub returns-clause-rest : goal.returns-clause-rest
returns-clause-rest c =
    rw c.as_slice.ensures (long_field (slice_bytes c.in_ok-rest.body), sym c.new.ensures ∙ c.in_ok-rest.ensures.body.framed)

pub of-requires : goal.of-requires
of-requires c =
    let s = slice_bytes c.new.result in
    let i = c.in_ok-rest.body in
    let rest = slice_bytes c.in_ok-rest.rest in
    let (v, (es, pairs, is), read) = head_read c.args.limits.depth (tagged amqp.FieldTable s) rest (head.FieldTable i) (table_head s i rest c.in_ok-rest.ensures.body) (c.has_valid_body.ensures.yes (search rules)) in
    ∣ (pairs.0, pairs.1) ∣₁
