-- `first_table`: if the length or the body is cut, the fault is right for the table with its type
-- tag, which lacks as many bytes.
use Rattle.std.proofs.Common.{List, ℕ, refl, subst}
use Rattle.std.proofs.lemmas.Result.{err_from_is_err_and}
use Rattle.amqp_value_core.specs.declared.types.amqp_type.AMQPType.TheVariants.{FieldTable}
use Rattle.amq_protocol_types.specs.parsing.Bodies.{IsCutLengthPrefixed}
use Rattle.amq_protocol_types.specs.parsing.ParseResults.{IsRefusal}
use Rattle.amq_protocol_types.specs.parsing.Untagged.{tagged}
use Rattle.amqp_c.proofs.FirstEntry.{cut_fault}
use Rattle.amqp_c.proofs.read.first_table.Goals as goal

pub returns-in_err-rest : goal.returns-in_err-rest
returns-in_err-rest c =
    let s = c.args.bytes.now in
    let e = c.in_err-rest.field-0.0 in
    let r = err_from_is_err_and c.from_residual.result c.from_residual.ensures.1 in
    rw (r.1, r.2) (cut_fault (tagged FieldTable s) s FieldTable (70, refl, refl) refl e (subst (λ (t : List ℕ). IsRefusal (IsCutLengthPrefixed t) ⊥ e) c.new.ensures c.in_err-rest.ensures))
