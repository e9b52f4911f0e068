-- The first problem: a complete payload has that of its bytes, a container that of its entries, and
-- an entry without one is passed over by its length.
use Rattle.std.proofs.Common.{◌-◌, Some, sym, ap, ◌∙◌, arith}
use Rattle.std.specs.Prelude.{option_map}
use Rattle.std.proofs.lemmas.List.{length-take-le}
use Rattle.amq_protocol_types.specs.parsing.Headers.{extent}
use Rattle.amqp_in_place.specs.Problems.{further, in_value, in_pair, pair_len, inside}
use Rattle.amqp_in_place.proofs.FirstProblems.{IsFreeOfProblems-next, payload_there, array_inside, table_inside}
use Rattle.amqp_in_place.proofs.problems.+problems.Goals as goal

pub payload-returns-in-Some : goal.payload-returns-in-Some
payload-returns-in-Some t c =
    let b = c.args.bytes.now in
    let n = c.args.len - 1 in (
      sym (payload_there (inside c.args.rules c.args.depth) c.args.amqp_type b n (omega (arith, c.requires)) (omega (arith, c.if-bytes-len.false))) ∙ sym c.in-Some.ensures.first,
      omega (arith, c.in-Some.ensures.inside, length-take-le n b (omega (arith, c.if-bytes-len.false))),
    )

pub inside-returns-in_err-values-in-FieldArray-clause-first : goal.inside-returns-in_err-values-in-FieldArray-clause-first
inside-returns-in_err-values-in-FieldArray-clause-first t c =
    c.from_residual.ensures ∙ (ap (option_map (further 5)) (sym (c.in_err-values-in-FieldArray.was {u = tt}))
    ∙ array_inside c.args.rules c.args.depth c.args.amqp_type c.args.bytes.now c.values.result c.in-FieldArray.is (omega (arith, c.if-depth-eq0.false)) c.values.ensures.first)

pub inside-returns-in_err-pairs-in-FieldTable-clause-first : goal.inside-returns-in_err-pairs-in-FieldTable-clause-first
inside-returns-in_err-pairs-in-FieldTable-clause-first t c =
    c.from_residual-in_err-pairs-in-FieldTable.ensures ∙ (ap (option_map (further 5)) (sym (c.in_err-pairs-in-FieldTable.was {u = tt}))
    ∙ table_inside c.args.rules c.args.depth c.args.amqp_type c.args.bytes.now c.pairs.result c.in-FieldTable.is (omega (arith, c.if-depth-eq0-2.false)) c.pairs.ensures.first)

pub inside-returns-in_ok-values-in-FieldArray-clause-first : goal.inside-returns-in_ok-values-in-FieldArray-clause-first
inside-returns-in_ok-values-in-FieldArray-clause-first t c =
    ap Some c.further.ensures ∙ (ap (option_map (further 5)) (sym (c.in_ok-values-in-FieldArray.was {u = tt}))
    ∙ array_inside c.args.rules c.args.depth c.args.amqp_type c.args.bytes.now c.values.result c.in-FieldArray.is (omega (arith, c.if-depth-eq0.false)) c.values.ensures.first)

pub inside-returns-in_ok-pairs-in-FieldTable-clause-first : goal.inside-returns-in_ok-pairs-in-FieldTable-clause-first
inside-returns-in_ok-pairs-in-FieldTable-clause-first t c =
    ap Some c.further-in-FieldTable.ensures ∙ (ap (option_map (further 5)) (sym (c.in_ok-pairs-in-FieldTable.was {u = tt}))
    ∙ table_inside c.args.rules c.args.depth c.args.amqp_type c.args.bytes.now c.pairs.result c.in-FieldTable.is (omega (arith, c.if-depth-eq0-2.false)) c.pairs.ensures.first)

pub values-values-preserved : goal.values-values-preserved
values-values-preserved t c =
    let h = c.in-Ok.ensures in
    IsFreeOfProblems-next (in_value c.args.rules (inside c.args.rules c.args.depth)) extent c.args.body.now c.values.at c.in-Ok.len c.values.invariant h.0 h.1 h.2 h.3

pub pairs-pairs-preserved : goal.pairs-pairs-preserved
pairs-pairs-preserved t c =
    let h = c.in-Ok.ensures in
    IsFreeOfProblems-next (in_pair c.args.rules (in_value c.args.rules (inside c.args.rules c.args.depth))) pair_len c.args.body.now c.pairs.at c.in-Ok.len c.pairs.invariant h.0 h.1 h.2 h.3
