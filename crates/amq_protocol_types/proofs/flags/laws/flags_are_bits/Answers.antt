-- `flags_are_bits`: each byte of `pack` is the number of its eight booleans, so they are its bits.
use Rattle.amq_protocol_types.proofs.FlagBits.{flag_is_bit, left_over, length_pack}
use Rattle.amq_protocol_types.proofs.flags.laws.flags_are_bits.Goals as goal

pub returns-clause-bit : goal.returns-clause-bit
returns-clause-bit c = flag_is_bit

pub returns-clause-left_over : goal.returns-clause-left_over
returns-clause-left_over c = left_over

pub returns-clause-count : goal.returns-clause-count
returns-clause-count c = length_pack
