-- `SplitInput::take_from`: what is left of both slices after `n` bytes is what is left of each
-- (`both_left`).
use Rattle.amqp_value_core.proofs.Bytes.{both_left}
use Rattle.amqp_value_core.proofs.input.split.SplitInputParsableInput.take_from.Goals as goal

pub returns-clause-bytes : goal.returns-clause-bytes
returns-clause-bytes c = both_left _ _ _ _ _ c.min.ensures c.saturating_sub.ensures c.requires
