-- The definitions by which contracts of this crate are stated.

-- flags: lists of names and booleans, and the bits that they are packed into
pub mod Flags
-- parsers: which values and errors they return, also within limits, and lengths by header
pub mod parsing
-- generators: what is written to an output, and what becomes of it after an error
pub mod generation
-- readers of values: what a call returns and retains, and calls of the reader below
pub mod stream
