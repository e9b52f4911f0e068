-- Definitions for reading values one after another from a `std::io::Read`.

-- calls of a source, one after another
pub mod Sources
-- what readers of values retain and return
pub mod Readers
-- the values that a loop has read from a reader
pub mod ReadSoFar
