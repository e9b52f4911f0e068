-- `text_of` may leave out the check of bytes that are ASCII, since these are UTF-8.
use Rattle.std.proofs.Common.{arith}
use Rattle.amq_protocol_types.proofs.Frames.{ascii_is_utf8}
use Rattle.amq_protocol_types.proofs.parsing.strings.text_of.Goals as goal

pub from_utf8_unchecked-requires : goal.from_utf8_unchecked-requires
from_utf8_unchecked-requires c = grind (arith, ascii_is_utf8)
