-- `is_table_read`: what `read_table_in_place` reads is a value after the type tag, and so has no
-- problem by `Rules::Reading` or `AnyKeys`.
use Rattle.std.proofs.Common.{option_map, sym, ap, ◌∙◌, arith}
use Rattle.amqp_value_core.specs.declared.types.amqp_type.AMQPType.TheVariants.{FieldTable}
use Rattle.amqp_value_core.specs.Values.{table}
use Rattle.amq_protocol_types.specs.parsing.Untagged.{tagged, RefusesUntagged}
use Rattle.amqp_in_place.specs.Bodies.{HasEntries}
use Rattle.amqp_in_place.specs.Problems.{without_tag}
use Rattle.amqp_in_place.specs.Refs.{table_body}
use Rattle.amqp_in_place.proofs.Canonicals.{bytes_all}
use Rattle.amqp_in_place.proofs.ProblemReadings.{none_if_ok}
use Rattle.amqp_in_place.proofs.problems.is_table_read.Goals as goal

pub returns-in-Reading : goal.returns-in-Reading
returns-in-Reading c = λ ok.
    let t = c.args.table.now in
    let l = c.args.limits in
    let read = c.read_table_in_place.ensures.within in
    ap (option_map without_tag)
    (none_if_ok (RefusesUntagged l FieldTable t) (λ x. x.1.now) (λ x. HasEntries (table_body x.0)) table c.args.rules l (tagged FieldTable t) (omega arith, bytes_all t c.type_inv.table) c.in-Reading.is c.read_table_in_place.result read (sym c.is_ok.ensures.value ∙ ok))
