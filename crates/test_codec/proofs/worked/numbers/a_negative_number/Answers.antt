-- `a_negative_number`: `view` is a fold, so it computes once the value is written as its variant.
use Rattle.std.proofs.Common.{negsuc, ap, sym, ◌∙◌}
use Rattle.amqp_value_core.specs.Values.{Tree, Trees, Entries}
use Rattle.amqp_value_core.specs.View.{view, view_step, array_step, table_step}
use Rattle.amqp_value_core.specs.declared.value.AMQPValue.TheOpen.{AMQPValue-F}
use Rattle.amqp_value_core.specs.declared.value.AMQPValue.TheVariants.{rolls-LongInt}
use Rattle.amqp_value_core.specs.declared.value.AMQPValue.TheFolds.{fold-roll-AMQPValue}
use Rattle.test_codec.proofs.worked.numbers.a_negative_number.Goals as goal

pub returns : goal.returns
returns c = ap view (sym (rolls-LongInt (negsuc 1))) ∙ fold-roll-AMQPValue Tree Trees Entries view_step array_step table_step (AMQPValue-F.LongInt (negsuc 1))
