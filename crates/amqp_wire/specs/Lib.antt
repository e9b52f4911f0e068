-- The definitions by which contracts of this program are stated.

-- the lines of a text, and what is printed of each
pub mod Lines
-- the lines of a stream
pub mod Streams
-- what ends a run before its last line
pub mod Faults
