-- What reading results in, without limits and within them.

-- the errors of parsers (17 lines)
pub mod Refusals
-- what `parse_value` returns: the headline's words on reading (21 lines)
pub mod ParseResults
-- what the parsers of one type return
pub mod PayloadResults
-- what the steps of reading a container return, and pairs on their way into a table
pub mod Bodies
-- what the first bytes of a value determine
pub mod Headers
-- what reading within limits results in
pub mod Limits
-- and of an array or a table without its type tag
pub mod Untagged
