-- `value_of`: if the head of a container means something, its body is values, or pairs, as
-- `ArrayRef::of` and `TableRef::of` require.
use Rattle.amqp_in_place.proofs.Stepping.{meant_values, meant_pairs}
use Rattle.amqp_in_place.proofs.steps.value_of.Goals as goal

pub of-requires : goal.of-requires
of-requires c = meant_values c.args.head c.in-FieldArray.body c.in-FieldArray.is c.requires

pub of-requires-in-FieldTable : goal.of-requires-in-FieldTable
of-requires-in-FieldTable c = meant_pairs c.args.head c.in-FieldTable.body c.in-FieldTable.is c.requires
